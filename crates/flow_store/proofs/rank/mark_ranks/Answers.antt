use Rattle.std.proofs.Common.{heap_items, subst}
use Rattle.std.specs.List.Sorted.{IsPermutation}
use Rattle.flow_store.specs.Ranks.{all_items}
use Rattle.flow_store.proofs.Marking.{tells-sorted}
use Rattle.flow_store.proofs.rank.mark_ranks.Goals as goal

pub returns : goal.returns
returns c =
    let xs = all_items (heap_items c.args.ranks.now.heap) c.args.ranks.now.locked in
    tells-sorted xs c.sort_unstable.new.self.items c.requires (subst (λ ms. IsPermutation ms c.sort_unstable.new.self.items) c.in_ok-fill_marks.ensures c.sort_unstable.ensures.permutation) c.sort_unstable.ensures.sorted
