use Rattle.std.proofs.Common.{◌≡◌, length, map}
use Rattle.flow_nodes.specs.Stepping.{node_of}
use Rattle.flow_nodes.proofs.nodes.Nodes.arrange.Given as goal

abbrev pub invariant-loop-at : goal.invariant-loop-at
invariant-loop-at l = map node_of l.self ≡ map node_of l.initial.self
