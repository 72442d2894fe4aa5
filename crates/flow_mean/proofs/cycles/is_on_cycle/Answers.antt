use Rattle.std.proofs.Common.{◌≡◌, ◌<◌, ◌≤◌, ℕ, [], length, ◌+◌, ◌-◌, ◌∙◌, arith}
use Rattle.flow_item.specs.Lists.{has}
use Rattle.flow_mean.specs.Determinate.{next_of, onward_times}
use Rattle.flow_mean.proofs.Searched.{list-read, list-within, next-there, next-within, mark-read, few-met, search-start, search-step, search-ends}
use Rattle.flow_mean.proofs.cycles.is_on_cycle.Goals as goal

pub meet-requires : goal.meet-requires
meet-requires c =
    let size : length c.in_ok-marks.marks.items ≡ length c.args.shape.now.nodes = omega (arith, c.in_ok-marks.ensures.len, c.in_ok-marks.marks.ok.0, c.len.ensures) in
    let list = list-read c.args.shape.now c.args.lists.now c.args.node c.index-lists-node.result c.requires.lists c.requires.within c.index-lists-node.is in
    list-within c.args.shape.now c.in_ok-marks.marks.items c.args.node c.as_slice.result.now c.requires.joined size (c.as_slice.ensures ∙ list)

pub loop-at-init : goal.loop-at-init
loop-at-init c =
    let list = list-read c.args.shape.now c.args.lists.now c.args.node c.index-lists-node.result c.requires.lists c.requires.within c.index-lists-node.is in
    record {
      search = search-start c.args.shape.now c.args.node c.len.result c.in_ok-marks.marks.items c.meet.new.marks.items c.new-order.result.items c.meet.new.order.items c.as_slice.result.now c.requires.joined
          c.len.ensures (c.in_ok-marks.ensures.items_if_clones_equal (λ y h. h)) c.new-order.ensures.items (c.as_slice.ensures ∙ list) c.in_ok-meet.ensures;
    }

pub meet-requires-in-loop-at : goal.meet-requires-in-loop-at
meet-requires-in-loop-at c =
    let shape = c.args.shape.now in
    let inside : c.loop-at.at < length c.loop-at.order.items = omega (arith, c.loop-at-test.true, c.len-in-loop-at.ensures, c.loop-at.order.ok.0) in
    let there = next-there c.loop-at.order.items c.loop-at.at c.index.result.now inside c.index.ensures in
    let within = next-within shape (next_of shape.edges c.args.node) c.loop-at.at c.index.result.now c.loop-at.marks.items c.loop-at.order.items there c.loop-at.invariant.search in
    let list = list-read shape c.args.lists.now c.index.result.now c.index-lists-next.result c.requires.lists within c.index-lists-next.is in
    list-within shape c.loop-at.marks.items c.index.result.now c.as_slice-in-loop-at.result.now c.requires.joined c.loop-at.invariant.search.sized (c.as_slice-in-loop-at.ensures ∙ list)

smaller : (size at len : ℕ) → at < len → len ≤ size → size - (at + 1) < size - at
smaller size at len less few = omega arith

pub loop-at-smaller : goal.loop-at-smaller
loop-at-smaller c =
    let shape = c.args.shape.now in
    let inside : c.loop-at.at < length c.loop-at.order.items = omega (arith, c.loop-at-test.true, c.len-in-loop-at.ensures, c.loop-at.order.ok.0) in
    let few : length c.loop-at.order.items ≤ length c.args.shape.now.nodes = few-met shape (next_of shape.edges c.args.node) c.loop-at.at [] c.loop-at.marks.items c.loop-at.order.items c.loop-at.invariant.search in
    smaller (length c.args.shape.now.nodes) c.loop-at.at (length c.loop-at.order.items) inside few

pub loop-at-preserved : goal.loop-at-preserved
loop-at-preserved c =
    let shape = c.args.shape.now in
    let inside : c.loop-at.at < length c.loop-at.order.items = omega (arith, c.loop-at-test.true, c.len-in-loop-at.ensures, c.loop-at.order.ok.0) in
    let there = next-there c.loop-at.order.items c.loop-at.at c.index.result.now inside c.index.ensures in
    let within = next-within shape (next_of shape.edges c.args.node) c.loop-at.at c.index.result.now c.loop-at.marks.items c.loop-at.order.items there c.loop-at.invariant.search in
    let list = list-read shape c.args.lists.now c.index.result.now c.index-lists-next.result c.requires.lists within c.index-lists-next.is in
    record {
      search = search-step shape (next_of shape.edges c.args.node) c.loop-at.at c.index.result.now c.loop-at.marks.items c.meet-in-loop-at.new.marks.items c.loop-at.order.items c.meet-in-loop-at.new.order.items c.as_slice-in-loop-at.result.now
          c.requires.joined there (c.as_slice-in-loop-at.ensures ∙ list) c.loop-at.invariant.search c.in_ok-meet-2.ensures;
    }

pub returns : goal.returns
returns c =
    let shape = c.args.shape.now in
    let past : length c.loop-at.order.items ≤ c.loop-at.at = omega (arith, c.loop-at-test.false, c.len-in-loop-at.ensures, c.loop-at.order.ok.0) in
    mark-read (length shape.nodes) (has (onward_times (length shape.nodes) shape.edges (next_of shape.edges c.args.node))) c.loop-at.marks.items c.args.node c.index-2.result.now
    (search-ends shape (next_of shape.edges c.args.node) c.loop-at.at c.loop-at.marks.items c.loop-at.order.items past c.loop-at.invariant.search) c.requires.within c.index-2.ensures
