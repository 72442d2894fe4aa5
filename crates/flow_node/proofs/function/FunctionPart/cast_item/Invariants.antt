use Rattle.std.proofs.Common.{◌≡◌, map, drop}
use Rattle.std.specs.List.{find}
use Rattle.flow_machine.specs.Enabled.{is_numbered}
use Rattle.flow_node.specs.Parts.{item_in}
use Rattle.flow_node.proofs.function.FunctionPart.cast_item.Given as goal

-- none of those before has the number
abbrev pub invariant-loop-k : goal.invariant-loop-k
invariant-loop-k l = find (is_numbered l.no) (map item_in (drop l.k l.self.outbox)) ≡ find (is_numbered l.no) (map item_in l.self.outbox)
