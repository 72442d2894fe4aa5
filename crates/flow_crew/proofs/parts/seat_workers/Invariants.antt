use Rattle.std.proofs.Common.{◌≡◌, ◌+◌, ◌≤◌, ◌++◌, length, map, reverse}
use Rattle.flow_crew.proofs.parts.seat_workers.Given as goal

-- with those that are left, there are as many as at the start
abbrev pub invariant-loop-worker : goal.invariant-loop-worker
invariant-loop-worker g l = record {
  workers : l.seats.workers.items ++ reverse (map (λ w. w.chair) l.workers.items) ≡ l.initial.seats.workers.items ++ reverse (map (λ w. w.chair) l.initial.workers.items);
  spare : l.seats.workers.spare + length l.initial.workers.items ≡ l.initial.seats.workers.spare + length l.workers.items;
  few : length l.workers.items ≤ l.seats.workers.spare;
  callers : l.seats.callers ≡ l.initial.seats.callers;
}

abbrev pub decreases-loop-worker : goal.decreases-loop-worker
decreases-loop-worker g l = length l.workers.items
