use Rattle.std.proofs.Common.{◌≡◌, drop}
use Rattle.flow_item.specs.Lists.{first}
use Rattle.flow_mean.specs.Determinate.{nodes_where, is_on_cycle}
use Rattle.flow_mean.proofs.cycles.first_on_cycle.Given as goal

abbrev pub invariant-loop-node : goal.invariant-loop-node
invariant-loop-node l = first (nodes_where (λ n k. is_on_cycle l.shape n) l.node (drop l.node l.shape.nodes)) ≡ first (nodes_where (λ n k. is_on_cycle l.shape n) 0 l.shape.nodes)
