use Rattle.std.proofs.Common.{[], take}
use Rattle.flow_shape.specs.Sorting.{Sorting}
use Rattle.flow_shape.proofs.Shape.follow_all.Given as goal

abbrev pub invariant-loop-at : goal.invariant-loop-at
invariant-loop-at l = Sorting l.self (take l.at l.order.items) [] l.counts l.order.items
