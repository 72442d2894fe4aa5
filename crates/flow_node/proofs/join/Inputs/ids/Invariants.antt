use Rattle.std.proofs.Common.{◌≡◌, map, take}
use Rattle.flow_machine.specs.WishEvents.{id_of}
use Rattle.flow_node.specs.Joins.{ready_parts}
use Rattle.flow_node.proofs.join.Inputs.ids.Given as goal

-- those of the ports before
abbrev pub invariant-loop-port : goal.invariant-loop-port
invariant-loop-port l = l.ids ≡ map id_of (take l.port (ready_parts l.self))
