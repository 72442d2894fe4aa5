use Rattle.std.proofs.Common.{◌≡◌, ◌++◌, nat_eq, drop}
use Rattle.flow_item.specs.Lists.{places}
use Rattle.flow_shape.proofs.topo.free_nodes.Given as goal

abbrev pub invariant-loop-node : goal.invariant-loop-node
invariant-loop-node l = l.order.items ++ places (λ k. nat_eq k 0) l.node (drop l.node l.counts) ≡ places (λ k. nat_eq k 0) 0 l.counts
