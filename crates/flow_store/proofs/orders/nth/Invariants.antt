use Rattle.std.proofs.Common.{◌≡◌, ◌<◌, ℕ, slice_index_or}
use Rattle.flow_item.specs.declared.item.Item.{Item}
use Rattle.flow_store.specs.Orders.{ahead, precedes}
use Rattle.flow_store.proofs.orders.nth.Given as goal

-- none of those before has so many before it
abbrev pub invariant-rows : goal.invariant-rows
invariant-rows g l = (i : ℕ) (d : Item) → i < l.place → ahead (precedes l.order) (g.R.Row.members l.row) (slice_index_or (g.R.Row.members l.row) i d) ≡ l.k → ⊥
