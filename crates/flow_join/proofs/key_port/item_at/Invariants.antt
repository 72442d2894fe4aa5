use Rattle.std.proofs.Common.{◌≡◌, slice_get, drop}
use Rattle.flow_join.specs.Tags.{filled}
use Rattle.flow_join.proofs.key_port.item_at.Given as goal

-- the item is the one at the place that is left, among the slots that are left
abbrev pub invariant-loop-slot : goal.invariant-loop-slot
invariant-loop-slot l = slice_get (filled (drop l.slot l.slots.items)) l.left ≡ slice_get (filled l.slots.items) l.k
