use Rattle.std.proofs.Common.{◌≡◌, ◌+◌, ◌-◌, ◌≤◌, ◌++◌, false, length, map, reverse, All}
use Rattle.flow_pool.specs.Posts.{IsPostOf}
use Rattle.flow_crew.proofs.open.hire_callers.Given as goal

-- the chairs that are left, and those that were taken, the last first
abbrev pub invariant-hire : goal.invariant-hire
invariant-hire g l = record {
  chairs : l.initial.chairs.items ≡ l.chairs.items ++ reverse (map (λ c. c.chair) l.callers.items);
  workers : l.initial.workers.items ≡ l.workers.items ++ reverse (map (λ c. c.worker.chair) l.callers.items);
  spare : l.chairs.spare ≡ l.initial.chairs.spare + length l.callers.items;
  room : l.workers.spare ≡ l.initial.workers.spare + length l.callers.items;
  few : length l.callers.items ≤ l.count;
  left : length l.initial.chairs.items ≡ length l.chairs.items + length l.callers.items;
  behind : length l.initial.workers.items ≡ length l.workers.items + length l.callers.items;
  fewer : length l.initial.posts.items ≡ length l.posts.items + length l.callers.items;
  new : All (λ c. IsPostOf l.pool c.worker.post × (c.worker.busy ≡ false)) l.callers.items;
  all : All (IsPostOf l.pool) l.posts.items;
}

abbrev pub decreases-hire : goal.decreases-hire
decreases-hire g l = l.count - length l.callers.items
