use Rattle.std.proofs.Common.{◌≡◌, All, length}
use Rattle.std.specs.List.{HoldsAt}
use Rattle.crossbeam_deque.specs.Handles.{view, IsPassOf, stealer_deque}
use Rattle.flow_pool.specs.Posts.{Each, after}
use Rattle.flow_pool.specs.Opening.{IsFresh, AreBegun}
use Rattle.flow_pool.proofs.open.reaches_of.Given as goal

abbrev pub invariant-loop-k : goal.invariant-loop-k
invariant-loop-k l =
    AreBegun l.pool l.list.items
    × ((length l.list.items ≡ length l.initial.list.items) × Each (λ q post. HoldsAt (λ was. post.reaches ≡ was.reaches) l.initial.list.items q) l.list.items)
    × (length l.reaches.items ≡ l.k)
    × Each (λ k r. HoldsAt (λ t. IsPassOf (stealer_deque t) r) l.pool.thieves.items (after (length l.pool.thieves.items) l.place k)) l.reaches.items
    × All (λ r. IsFresh l.pool.nodes (view r)) l.reaches.items
