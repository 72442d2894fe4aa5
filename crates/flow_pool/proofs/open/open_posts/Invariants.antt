use Rattle.std.proofs.Common.{◌≡◌, ◌<◌, true, length}
use Rattle.crossbeam_deque.specs.Injected.{injector_view, IsInjectorPassOf}
use Rattle.flow_pool.specs.Posts.{Each}
use Rattle.flow_pool.specs.Opening.{IsFresh, IsOpened}
use Rattle.flow_pool.proofs.open.open_posts.Given as goal

abbrev pub invariant-loop-place : goal.invariant-loop-place
invariant-loop-place l =
    (length l.list.items ≡ l.place)
    × Each (IsOpened l.pool l.posts) l.list.items
    × IsInjectorPassOf l.pool.entrance l.whole
    × (l.place < l.posts → IsFresh l.pool.nodes (injector_view l.whole))
    × (l.place ≡ 0 → (injector_view l.whole).alone ≡ true)
