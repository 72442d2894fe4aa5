use Rattle.std.proofs.Common.{◌≡◌, drop}
use Rattle.flow_item.specs.Lists.{first}
use Rattle.flow_mean.specs.Determinate.{nodes_where, may_lose}
use Rattle.flow_mean.proofs.rules.losing.Given as goal

abbrev pub invariant-loop-node : goal.invariant-loop-node
invariant-loop-node l = first (nodes_where (may_lose l.doc) l.node (drop l.node l.doc.shape.nodes)) ≡ first (nodes_where (may_lose l.doc) 0 l.doc.shape.nodes)
