use Rattle.std.proofs.Common.{◌≡◌, drop}
use Rattle.flow_shape.specs.Places.{wire_in}
use Rattle.flow_node.proofs.base.wire_of.Given as goal

-- none of those before has the number
abbrev pub invariant-loop-k : goal.invariant-loop-k
invariant-loop-k l = wire_in (drop l.k l.wires) l.edge ≡ wire_in l.wires l.edge
