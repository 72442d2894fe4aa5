use Rattle.std.proofs.Common.{◌≡◌, Option, true, Some, None, sym, ap, ◌∙◌, subst, arith, heap_items}
use Rattle.flow_shape.specs.declared.Kind.TheVariants as K
use Rattle.flow_machine.specs.State.{store_part}
use Rattle.flow_store.specs.Stores.{RoomyRanks, ranks_of, goes}
use Rattle.flow_store.specs.Orders.{by_age, Once, number_of}
use Rattle.flow_store.specs.declared.ranked.Locked.{Locked}
use Rattle.flow_store.specs.Ranks.{all_items}
use Rattle.flow_store.proofs.RankSteps.{Stayed, rank-held, top-goes, free-to_go}
use Rattle.flow_store.proofs.rank.RankStoreStore.hold.Goals as goal

-- what is locked now, and nothing was before
held : (c : goal.Joined-self) → Stayed (all_items (heap_items c.self.inside.ranks.heap) c.self.inside.ranks.locked) (all_items (heap_items c.pop_ranked-item.new.heap) (Some record { edge = c.args.edge; item = c.pop_ranked-item.result }))
held c =
    let i = c.self.inside.ranks in
    let may = subst (λ (v : RoomyRanks). goes K.Priority (store_part (ranks_of v)) c.args._no ≡ true) (sym c.self.view_is) c.requires.goes in
    let none : i.locked ≡ None = free-to_go (by_age (all_items (heap_items i.heap) i.locked)) i.locked c.args._no may in
    let l : Locked = record { edge = c.args.edge; item = c.pop_ranked-item.result } in
    subst (λ (o : Option Locked). Stayed (all_items (heap_items i.heap) o) (all_items (heap_items c.pop_ranked-item.new.heap) (Some l))) (sym none)
    (rank-held (heap_items i.heap) (heap_items c.pop_ranked-item.new.heap) l (subst (λ (o : Option Locked). Once number_of (all_items (heap_items i.heap) o)) none c.self.invariant.once) c.pop_ranked-item.ensures.items)

pub invariant_of-self : goal.invariant_of-self
invariant_of-self c = record {
  ordered = c.pop_ranked-item.ensures.ordered;
  once = (held c).once;
  room = omega (arith, c.pop_ranked-item.ensures.len, c.pop_ranked-item.ensures.capacity, c.self.invariant.room);
  told = λ h. let never : ⊥ = cc in absurd never;
}

pub returns-clause-part : goal.returns-clause-part
returns-clause-part c =
    let i = c.self.inside.ranks in
    let may = subst (λ (v : RoomyRanks). goes K.Priority (store_part (ranks_of v)) c.args._no ≡ true) (sym c.self.view_is) c.requires.goes in
    let same : c.pop_ranked-item.result.id.no ≡ c.args._no =
    top-goes (heap_items i.heap) i.locked c.pop_ranked-item.result _ c.args._no c.self.invariant.once may c.pop_ranked-item.ensures.items c.pop_ranked-item.ensures.first in
    ap (λ xs. store_part record { items = xs; lock = Some record { edge = c.args.edge; item = c.pop_ranked-item.result.id.no }; next = 0 }) (held c).items
    ∙ ap (λ n. store_part record { items = by_age (all_items (heap_items i.heap) i.locked); lock = Some record { edge = c.args.edge; item = n }; next = 0 }) same
    ∙ ap (λ (v : RoomyRanks). store_part record { items = v.items; lock = Some record { edge = c.args.edge; item = c.args._no }; next = 0 }) c.self.view_is
