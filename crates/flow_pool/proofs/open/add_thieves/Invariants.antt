use Rattle.std.proofs.Common.{◌≡◌, length}
use Rattle.std.specs.List.{HoldsAt}
use Rattle.crossbeam_deque.specs.Handles.{stealer_deque, stealer_flavor, worker_deque}
use Rattle.flow_pool.specs.Posts.{Each}
use Rattle.flow_pool.proofs.open.add_thieves.Given as goal

abbrev pub invariant-loop-place : goal.invariant-loop-place
invariant-loop-place l =
    (l.pool.entrance ≡ l.initial.pool.entrance)
    × (l.pool.nodes ≡ l.initial.pool.nodes)
    × (length l.pool.thieves.items ≡ l.place)
    × Each (λ q t. HoldsAt (λ post. (stealer_deque t ≡ worker_deque post.own) × (stealer_flavor t ≡ 0)) l.list.items q) l.pool.thieves.items
