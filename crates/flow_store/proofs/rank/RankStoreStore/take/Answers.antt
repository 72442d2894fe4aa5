use Rattle.std.proofs.Common.{◌≡◌, Option, ℕ, true, Some, None, List, sym, ap, ◌∙◌, subst, arith, heap_items}
use Rattle.std.specs.Option.{option_map}
use Rattle.flow_item.specs.Lists.{drop_first}
use Rattle.flow_machine.specs.State.{store_part}
use Rattle.flow_machine.specs.Enabled.{is_numbered, is_reserved}
use Rattle.flow_store.specs.Stores.{RoomyRanks, ranks_of}
use Rattle.flow_store.specs.Orders.{by_age, Once, number_of}
use Rattle.flow_store.specs.declared.ranked.Locked.{Locked}
use Rattle.flow_store.specs.declared.ranked.Ranked.{Ranked}
use Rattle.flow_store.specs.Ranks.{all_items, claim_of}
use Rattle.flow_store.proofs.RankSteps.{Went, rank-taken, reserved-locked, reserved-some}
use Rattle.flow_store.proofs.rank.RankStoreStore.take.Goals as goal

-- a lock that was reserved leaves with its item
taken-of : (heap : List Ranked) (locked : Option Locked) (x number : ℕ) → Once number_of (all_items heap locked)
    → is_reserved (store_part record { items = by_age (all_items heap locked); lock = option_map claim_of locked; next = 0 }) x number ≡ true
    → Went (all_items heap locked) (all_items heap None) number
taken-of heap None x number once h = absurd (reserved-some (by_age (all_items heap None)) x number h)
taken-of heap (Some l) x number once h = rank-taken heap l number once (reserved-locked (by_age (all_items heap (Some l))) l x number h)

taken : (c : goal.Joined-self) → Went (all_items (heap_items c.self.inside.ranks.heap) c.self.inside.ranks.locked) (all_items (heap_items c.self.inside.ranks.heap) None) c.args._no
taken c =
    let i = c.self.inside.ranks in
    taken-of (heap_items i.heap) i.locked c.args._edge c.args._no c.self.invariant.once
    (subst (λ (v : RoomyRanks). is_reserved (store_part (ranks_of v)) c.args._edge c.args._no ≡ true) (sym c.self.view_is) c.requires.held)

pub invariant_of-self : goal.invariant_of-self
invariant_of-self c = record {
  ordered = c.self.invariant.ordered;
  once = (taken c).once;
  room = omega (arith, c.self.invariant.room);
  told = λ h. let never : ⊥ = cc in absurd never;
}

pub returns-clause-part : goal.returns-clause-part
returns-clause-part c =
    ap (λ xs. store_part record { items = xs; lock = None; next = 0 }) (taken c).items
    ∙ ap (λ (v : RoomyRanks). store_part record { items = drop_first (is_numbered c.args._no) v.items; lock = None; next = 0 }) c.self.view_is
