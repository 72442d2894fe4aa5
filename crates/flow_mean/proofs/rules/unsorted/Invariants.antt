use Rattle.std.proofs.Common.{◌≡◌, drop, ◌&&◌, not}
use Rattle.flow_item.specs.Lists.{first, has}
use Rattle.flow_mean.specs.Meaning.{is_sequencer}
use Rattle.flow_mean.specs.Determinate.{nodes_where}
use Rattle.flow_mean.proofs.rules.unsorted.Given as goal

abbrev pub invariant-loop-node : goal.invariant-loop-node
invariant-loop-node l = first (nodes_where (λ n k. has l.doc.sinks n && not (is_sequencer k)) l.node (drop l.node l.doc.shape.nodes)) ≡ first (nodes_where (λ n k. has l.doc.sinks n && not (is_sequencer k)) 0 l.doc.shape.nodes)
