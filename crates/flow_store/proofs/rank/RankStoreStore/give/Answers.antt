use Rattle.std.proofs.Common.{◌≡◌, true, sym, ap, ◌∙◌, subst, arith, heap_items}
use Rattle.std.specs.Option.{option_map}
use Rattle.flow_item.specs.Lists.{drop_first}
use Rattle.flow_shape.specs.declared.Kind.TheVariants as K
use Rattle.flow_machine.specs.State.{store_part}
use Rattle.flow_machine.specs.Enabled.{is_numbered}
use Rattle.flow_store.specs.Stores.{RoomyRanks, ranks_of, goes}
use Rattle.flow_store.specs.Ranks.{all_items, claim_of}
use Rattle.flow_store.proofs.RankSteps.{Went, rank-given}
use Rattle.flow_store.proofs.rank.RankStoreStore.give.Goals as goal

given : (c : goal.Joined-pop_ranked) → Went (all_items (heap_items c.self.inside.ranks.heap) c.self.inside.ranks.locked) (all_items (heap_items c.pop_ranked.new.heap) c.self.inside.ranks.locked) c.args._no
given c =
    let i = c.self.inside.ranks in
    let may = subst (λ (v : RoomyRanks). goes K.Priority (store_part (ranks_of v)) c.args._no ≡ true) (sym c.self.view_is) c.requires.goes in
    rank-given (heap_items i.heap) (heap_items c.pop_ranked.new.heap) i.locked c.pop_ranked.result c.args._no c.self.invariant.once may c.pop_ranked.ensures.items c.pop_ranked.ensures.first

pub invariant_of-self : goal.invariant_of-self
invariant_of-self c = record {
  ordered = c.pop_ranked.ensures.ordered;
  once = (given c).once;
  room = omega (arith, c.pop_ranked.ensures.len, c.pop_ranked.ensures.capacity, c.self.invariant.room);
  told = λ h. let never : ⊥ = cc in absurd never;
}

pub returns-clause-part : goal.returns-clause-part
returns-clause-part c =
    ap (λ xs. store_part record { items = xs; lock = option_map claim_of c.self.inside.ranks.locked; next = 0 }) (given c).items
    ∙ ap (λ (v : RoomyRanks). store_part record { items = drop_first (is_numbered c.args._no) v.items; lock = v.lock; next = 0 }) c.self.view_is
