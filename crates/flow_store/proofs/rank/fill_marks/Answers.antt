use Rattle.std.proofs.Common.{◌≡◌, ◌+◌, suc, [], ◌∷◌, ◌++◌, take, ap, sym, ◌∙◌, arith, heap_items}
use Rattle.flow_store.specs.Ranks.{all_items}
use Rattle.flow_store.specs.Marks.{marks_from}
use Rattle.flow_store.proofs.Marking.{marks-more}
use Rattle.flow_store.proofs.rank.fill_marks.Goals as goal

pub fill-init : goal.fill-init
fill-init c = record {
  marked = c.reserve.ensures.items ∙ c.clear.ensures.items;
  len = c.reserve.ensures.len ∙ c.clear.ensures.len;
  room = omega (arith, c.count-count.ensures, c.clear.ensures.len, c.reserve.ensures.len, c.in-Ok.ensures.ok);
}

pub fill-preserved : goal.fill-preserved
fill-preserved c =
    let xs = all_items (heap_items c.args.ranks.now.heap) c.args.ranks.now.locked in
    let k = c.fill.place in
    let up : suc k ≡ k + 1 = omega arith in
    let here : k ≡ 0 + k = omega arith in
    record {
      marked =
          c.push_reserved.ensures.items
          ∙ ap (λ ms. ms ++ c.of.result ∷ []) c.fill.invariant.marked
          ∙ ap (λ m. marks_from 0 (take k xs) ++ m ∷ []) c.of.ensures
          ∙ sym (marks-more 0 k k xs c.member.result.now here c.member.ensures)
          ∙ ap (λ n. marks_from 0 (take n xs)) up;
      len = omega (arith, c.push_reserved.ensures.len, c.fill.invariant.len);
      room = omega (arith, c.push_reserved.ensures.capacity, c.fill.invariant.room);
    }
