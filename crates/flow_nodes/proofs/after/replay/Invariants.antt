use Rattle.std.proofs.Common.{◌≡◌, take, map}
use Rattle.flow_nodes.specs.Stepping.{node_of}
use Rattle.flow_nodes.specs.Rows.{nodes_of}
use Rattle.flow_nodes.proofs.after.replay.Given as goal

abbrev pub invariant-loop-at : goal.invariant-loop-at
invariant-loop-at l = map node_of l.nodes ≡ nodes_of l.shape (take l.at l.journal)
