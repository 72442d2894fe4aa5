use Rattle.std.proofs.Common.{◌≡◌, drop, ◌&&◌}
use Rattle.std.specs.List.{list_any}
use Rattle.flow_item.specs.Lists.{first}
use Rattle.flow_mean.specs.Determinate.{is_function, is_cancel, nodes_where}
use Rattle.flow_mean.proofs.rules.cancelled.Given as goal

abbrev pub invariant-loop-node : goal.invariant-loop-node
invariant-loop-node l = first (nodes_where (λ n k. is_function k && list_any (list_any is_cancel) l.doc.scripts) l.node (drop l.node l.doc.shape.nodes)) ≡ first (nodes_where (λ n k. is_function k && list_any (list_any is_cancel) l.doc.scripts) 0 l.doc.shape.nodes)
