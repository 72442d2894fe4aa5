use Rattle.std.proofs.Common.{◌≡◌, false, Option, ◌+◌, ◌≤◌, Some, None, sym, ap, ◌∙◌, subst, arith, heap_items, heap_len}
use Rattle.std.specs.BinaryHeap.{heap_capacity}
use Rattle.std.specs.Option.{option_map}
use Rattle.flow_machine.specs.State.{store_part}
use Rattle.flow_store.specs.Stores.{RoomyRanks}
use Rattle.flow_store.specs.Orders.{by_age, Once, number_of}
use Rattle.flow_store.specs.declared.ranked.Locked.{Locked}
use Rattle.flow_store.specs.Ranks.{all_items, claim_of, locked_count, KeepsRanks}
use Rattle.flow_store.proofs.RankSteps.{Stayed, rank-freed}
use Rattle.flow_store.proofs.rank.RankStoreStore.free.Goals as goal

freed : (c : goal.After-push_ranked) → Stayed (all_items (heap_items c.self.inside.ranks.heap) c.self.inside.ranks.locked) (all_items (heap_items c.push_ranked.new.heap) None)
freed c =
    let i = c.self.inside.ranks in
    let l = c.in-Some.locked in
    let some : i.locked ≡ Some l = sym c.take.ensures.value ∙ c.in-Some.is in
    subst (λ (o : Option Locked). Stayed (all_items (heap_items i.heap) o) (all_items (heap_items c.push_ranked.new.heap) None)) (sym some)
    (rank-freed (heap_items i.heap) (heap_items c.push_ranked.new.heap) l (subst (λ (o : Option Locked). Once number_of (all_items (heap_items i.heap) o)) some c.self.invariant.once) c.push_ranked.ensures.items)

pub invariant_of-self : goal.invariant_of-self
invariant_of-self c =
    let i = c.self.inside.ranks in
    let some : i.locked ≡ Some c.in-Some.locked = sym c.take.ensures.value ∙ c.in-Some.is in
    let room : heap_len i.heap + 1 ≤ heap_capacity i.heap = subst (λ (o : Option Locked). heap_len i.heap + locked_count o ≤ heap_capacity i.heap) some c.self.invariant.room in
    let fits : heap_len c.push_ranked.new.heap + 0 ≤ heap_capacity c.push_ranked.new.heap = omega (arith, c.push_ranked.ensures.len, c.push_ranked.ensures.capacity) in
    subst (λ (o : Option Locked). KeepsRanks (heap_items c.push_ranked.new.heap) o (heap_len c.push_ranked.new.heap) (heap_capacity c.push_ranked.new.heap) c.self.inside.marks.items false) (sym c.take.ensures.after)
    record { ordered = c.push_ranked.ensures.ordered; once = (freed c).once; room = fits; told = λ h. let never : ⊥ = cc in absurd never }

pub returns-clause-part : goal.returns-clause-part
returns-clause-part c =
    ap (λ (o : Option Locked). store_part record { items = by_age (all_items (heap_items c.push_ranked.new.heap) o); lock = option_map claim_of o; next = 0 }) c.take.ensures.after
    ∙ ap (λ xs. store_part record { items = xs; lock = None; next = 0 }) (freed c).items
    ∙ ap (λ (v : RoomyRanks). store_part record { items = v.items; lock = None; next = 0 }) c.self.view_is
