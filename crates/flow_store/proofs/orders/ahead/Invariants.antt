use Rattle.std.proofs.Common.{◌≡◌, ◌≤◌, take}
use Rattle.flow_store.specs.Orders.{ahead, precedes}
use Rattle.flow_store.proofs.orders.ahead.Given as goal

-- those that were passed are counted
abbrev pub invariant-rows : goal.invariant-rows
invariant-rows g l = record {
  counted : l.count ≡ ahead (precedes l.order) (take l.place (g.R.Row.members l.row)) l.item;
  within : l.count ≤ l.place;
}
