use Rattle.std.proofs.Common.{◌≡◌, length, drop}
use Rattle.flow_shape.specs.Sorting.{followed}
use Rattle.flow_shape.proofs.topo.follow.Given as goal

abbrev pub invariant-loop-target : goal.invariant-loop-target
invariant-loop-target l =
    (length l.counts ≡ length l.initial.counts)
    × (followed (drop l.target-index l.targets) (l.counts, l.order.items) ≡ followed l.targets (l.initial.counts, l.initial.order.items))
