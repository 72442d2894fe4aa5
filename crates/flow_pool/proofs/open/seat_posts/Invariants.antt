use Rattle.std.proofs.Common.{◌≡◌, ◌<◌, length}
use Rattle.flow_pool.specs.Posts.{Each, AreReaches}
use Rattle.flow_pool.specs.Opening.{AreBegun}
use Rattle.flow_pool.proofs.open.seat_posts.Given as goal

abbrev pub invariant-loop-place : goal.invariant-loop-place
invariant-loop-place l =
    AreBegun l.pool l.list.items × (length l.list.items ≡ length l.initial.list.items) × Each (λ q post. q < l.place → AreReaches l.pool.thieves.items q post.reaches.items) l.list.items
