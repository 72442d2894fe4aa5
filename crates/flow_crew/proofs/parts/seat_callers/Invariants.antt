use Rattle.std.proofs.Common.{◌≡◌, ◌≤◌, ◌++◌, length, map, reverse}
use Rattle.flow_crew.proofs.parts.seat_callers.Given as goal

-- with those that are left, there are as many as at the start
abbrev pub invariant-loop-caller : goal.invariant-loop-caller
invariant-loop-caller g l = record {
  callers : l.seats.callers.items ++ reverse (map (λ c. c.chair) l.callers.items) ≡ l.initial.seats.callers.items ++ reverse (map (λ c. c.chair) l.initial.callers.items);
  workers : l.seats.workers.items ++ reverse (map (λ c. c.worker.chair) l.callers.items) ≡ l.initial.seats.workers.items ++ reverse (map (λ c. c.worker.chair) l.initial.callers.items);
  few : length l.callers.items ≤ l.seats.callers.spare;
  room : length l.callers.items ≤ l.seats.workers.spare;
}

abbrev pub decreases-loop-caller : goal.decreases-loop-caller
decreases-loop-caller g l = length l.callers.items
