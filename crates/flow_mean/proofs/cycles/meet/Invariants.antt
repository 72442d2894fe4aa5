use Rattle.std.proofs.Common.{◌≡◌, length, drop}
use Rattle.flow_mean.specs.Searching.{met}
use Rattle.flow_mean.proofs.cycles.meet.Given as goal

abbrev pub invariant-loop-node : goal.invariant-loop-node
invariant-loop-node l =
    (length l.marks.items ≡ length l.initial.marks.items)
    × (met (drop l.node-index l.nodes) (l.marks.items, l.order.items) ≡ met l.nodes (l.initial.marks.items, l.initial.order.items))
