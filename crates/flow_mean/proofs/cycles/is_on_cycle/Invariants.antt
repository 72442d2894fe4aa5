use Rattle.std.proofs.Common.{◌-◌, [], length}
use Rattle.flow_mean.specs.Determinate.{next_of}
use Rattle.flow_mean.specs.Searching.{Searching}
use Rattle.flow_mean.proofs.cycles.is_on_cycle.Given as goal

abbrev pub invariant-loop-at : goal.invariant-loop-at
invariant-loop-at l = record { search : Searching l.shape (next_of l.shape.edges l.node) l.at [] l.marks.items l.order.items }

abbrev pub decreases-loop-at : goal.decreases-loop-at
decreases-loop-at l = length l.shape.nodes - l.at
