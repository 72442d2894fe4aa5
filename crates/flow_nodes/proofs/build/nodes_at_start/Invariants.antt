use Rattle.std.proofs.Common.{◌≡◌, ◌++◌, [], drop, map}
use Rattle.flow_item.specs.Lists.{map_places}
use Rattle.flow_nodes.specs.Stepping.{node_of}
use Rattle.flow_nodes.specs.Rows.{node_at, nodes_of}
use Rattle.flow_nodes.proofs.build.nodes_at_start.Given as goal

-- the nodes that were made, and those that are left
abbrev pub invariant-loop-n : goal.invariant-loop-n
invariant-loop-n l = map node_of l.nodes.items ++ map_places (node_at l.shape []) l.n (drop l.n l.shape.nodes) ≡ nodes_of l.shape []
