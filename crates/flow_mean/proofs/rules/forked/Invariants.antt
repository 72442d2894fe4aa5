use Rattle.std.proofs.Common.{◌≡◌, drop, ◌&&◌}
use Rattle.flow_item.specs.Lists.{first}
use Rattle.flow_shape.specs.Kinds.{is_single_push}
use Rattle.flow_mean.specs.Determinate.{nodes_where, has_several_out_edges}
use Rattle.flow_mean.proofs.rules.forked.Given as goal

abbrev pub invariant-loop-node : goal.invariant-loop-node
invariant-loop-node l = first (nodes_where (λ n k. is_single_push k && has_several_out_edges l.doc n) l.node (drop l.node l.doc.shape.nodes)) ≡ first (nodes_where (λ n k. is_single_push k && has_several_out_edges l.doc n) 0 l.doc.shape.nodes)
