use Rattle.std.proofs.Common.{◌≡◌, List, ℕ, ◌<◌, ltb, true, length, get_or, [], arith, refl, sym, ap, subst, ◌∙◌}
use Rattle.std.specs.List.{list_all}
use Rattle.flow_shape.specs.Sorting.{targets, followed}
use Rattle.flow_shape.proofs.Sorting.{node-list, node-followed, targets-within, on-ok}
use Rattle.flow_shape.proofs.Shape.follow_at.Goals as goal

pub follow-requires : goal.follow-requires
follow-requires c =
    let shape = c.args.self.now in
    let order : List ℕ = c.args.order.now.items in
    let inside : c.args.at < length order = omega (arith, c.if-at-len.false, c.len.ensures, c.args.order.now.ok.0) in
    let list = node-list shape c.args.lists.now c.args.at c.index.result.now c.index-lists-node.result c.args.counts.now order c.requires.lists inside c.index.ensures c.index-lists-node.is c.requires.start in
    let within : list_all (λ n. ltb n (length c.args.counts.now)) (targets shape.edges (get_or order c.args.at 0)) ≡ true =
    subst (λ k. list_all (λ n. ltb n k) (targets shape.edges (get_or order c.args.at 0)) ≡ true) (sym c.requires.start.counted) (targets-within shape (get_or order c.args.at 0) shape.edges c.requires.joined) in
    subst (λ (l : List ℕ). list_all (λ n. ltb n (length c.args.counts.now)) l ≡ true) (sym (c.as_slice.ensures ∙ list)) within

pub returns : goal.returns
returns c =
    let shape = c.args.self.now in
    let order : List ℕ = c.args.order.now.items in
    let inside : c.args.at < length order = omega (arith, c.if-at-len.false, c.len.ensures, c.args.order.now.ok.0) in
    let list = node-list shape c.args.lists.now c.args.at c.index.result.now c.index-lists-node.result c.args.counts.now order c.requires.lists inside c.index.ensures c.index-lists-node.is c.requires.start in
    on-ok c.follow.result (λ same. node-followed shape c.args.at c.args.counts.now order c.follow.new.counts c.follow.new.order.items c.requires.joined inside c.requires.start
    (same ∙ ap (λ (l : List ℕ). followed l (c.args.counts.now, order)) (c.as_slice.ensures ∙ list))) c.follow.ensures
