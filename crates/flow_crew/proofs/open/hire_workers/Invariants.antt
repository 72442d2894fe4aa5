use Rattle.std.proofs.Common.{◌≡◌, ◌+◌, ◌-◌, ◌≤◌, ◌++◌, false, length, map, reverse, All}
use Rattle.flow_pool.specs.Posts.{IsPostOf}
use Rattle.flow_crew.proofs.open.hire_workers.Given as goal

-- the chairs that are left, and those that were taken, the last first
abbrev pub invariant-hire : goal.invariant-hire
invariant-hire g l = record {
  chairs : l.initial.chairs.items ≡ l.chairs.items ++ reverse (map (λ w. w.chair) l.workers.items);
  spare : l.chairs.spare ≡ l.initial.chairs.spare + length l.workers.items;
  few : length l.workers.items ≤ l.count;
  left : length l.initial.chairs.items ≡ length l.chairs.items + length l.workers.items;
  fewer : length l.initial.posts.items ≡ length l.posts.items + length l.workers.items;
  new : All (λ w. IsPostOf l.pool w.post × (w.busy ≡ false)) l.workers.items;
  all : All (IsPostOf l.pool) l.posts.items;
}

abbrev pub decreases-hire : goal.decreases-hire
decreases-hire g l = l.count - length l.workers.items
