use Rattle.std.proofs.Common.{◌≡◌, drop, not}
use Rattle.flow_item.specs.Lists.{first}
use Rattle.flow_mean.specs.Determinate.{is_orderly, nodes_where}
use Rattle.flow_mean.proofs.rules.disorderly.Given as goal

abbrev pub invariant-loop-node : goal.invariant-loop-node
invariant-loop-node l = first (nodes_where (λ n k. not (is_orderly k)) l.node (drop l.node l.doc.shape.nodes)) ≡ first (nodes_where (λ n k. not (is_orderly k)) 0 l.doc.shape.nodes)
