use Rattle.std.proofs.Common.{◌≡◌, drop}
use Rattle.std.specs.List.{find}
use Rattle.flow_machine.specs.Enabled.{is_numbered}
use Rattle.flow_machine.specs.Ledger.{flattened}
use Rattle.flow_node.specs.Joins.{ports_of}
use Rattle.flow_node.proofs.join.JoinPart.waiting.Given as goal

-- no item of the number waits at the ports before
abbrev pub invariant-loop-port : goal.invariant-loop-port
invariant-loop-port l = find (is_numbered l.no) (flattened (drop l.port (ports_of l.self.inputs))) ≡ find (is_numbered l.no) (flattened (ports_of l.self.inputs))
