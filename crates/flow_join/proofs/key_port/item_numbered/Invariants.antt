use Rattle.std.proofs.Common.{◌≡◌, drop}
use Rattle.std.specs.List.{find}
use Rattle.flow_machine.specs.Enabled.{is_numbered}
use Rattle.flow_join.specs.Tags.{filled}
use Rattle.flow_join.proofs.key_port.item_numbered.Given as goal

-- none of the slots before has an item of the number
abbrev pub invariant-loop-slot : goal.invariant-loop-slot
invariant-loop-slot l = find (is_numbered l.no) (filled (drop l.slot l.slots.items)) ≡ find (is_numbered l.no) (filled l.slots.items)
