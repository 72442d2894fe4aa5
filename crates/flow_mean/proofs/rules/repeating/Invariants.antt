use Rattle.std.proofs.Common.{◌≡◌, drop}
use Rattle.flow_item.specs.Lists.{first}
use Rattle.flow_machine.specs.Bodies.{Meanings}
use Rattle.flow_mean.specs.Determinate.{nodes_where, repeats_tag}
use Rattle.flow_mean.specs.Judging.{AreRepeats}
use Rattle.flow_mean.proofs.rules.repeating.Given as goal

abbrev pub invariant-loop-node : goal.invariant-loop-node
invariant-loop-node l = (m : Meanings) → AreRepeats m l.doc l.repeats → first (nodes_where (repeats_tag m l.doc) l.node (drop l.node l.doc.shape.nodes)) ≡ first (nodes_where (repeats_tag m l.doc) 0 l.doc.shape.nodes)
