-- A pool at its start.
use Rattle.std.specs.Prelude.{ℕ, ◌≡◌, true, List, [], All, length}
use Rattle.std.specs.List.{HoldsAt}
use Rattle.crossbeam_deque.specs.Handles.{view, stealer_deque, stealer_flavor, worker_deque, worker_flavor, worker_view}
use Rattle.crossbeam_deque.specs.Injected.{injector_view, IsInjectorPassOf}
use Rattle.flow_pool.specs.declared.hand.Hand.{Hand}
use Rattle.flow_pool.specs.declared.post.Post.{Post}
use Rattle.flow_pool.specs.declared.pool.Pool.{Pool}
use Rattle.flow_pool.specs.Posts.{Each, IsTold, IsPostOf, hands}

-- a hand that pushed and took nothing so far
abbrev pub IsFresh : ℕ → Hand → Type 0
IsFresh nodes h = IsTold nodes h × (h.pushed ≡ []) × (h.taken ≡ [])

-- the post at the place q of so many, with an empty queue
pub record IsOpened (pool : Pool) (posts q : ℕ) (post : Post) : Type 0 where
  pub place : post.place ≡ q
  pub flavor : worker_flavor post.own ≡ 0
  pub entry : IsInjectorPassOf pool.entrance post.entry
  pub own_fresh : IsFresh pool.nodes (worker_view post.own)
  pub entry_fresh : IsFresh pool.nodes (injector_view post.entry)
  pub reaches_fresh : All (λ r. IsFresh pool.nodes (view r)) post.reaches.items
  pub alone : posts ≡ 1 → ((worker_view post.own).alone ≡ true) × ((injector_view post.entry).alone ≡ true)

-- the others reach its queue in the pool
abbrev pub IsReached : Pool → ℕ → Post → Type 0
IsReached pool q post = HoldsAt (λ t. (stealer_deque t ≡ worker_deque post.own) × (stealer_flavor t ≡ 0)) pool.thieves.items q

abbrev pub IsBegun : Pool → ℕ → Post → Type 0
IsBegun pool q post = IsOpened pool (length pool.thieves.items) q post × IsReached pool q post

-- so many posts with empty queues
abbrev pub AreBegun : Pool → List Post → Type 0
AreBegun pool list = (length pool.thieves.items ≡ length list) × Each (IsBegun pool) list

-- a post of this pool whose hands pushed and took nothing so far. They are alone where there is no other post
abbrev pub IsSeated : Pool → ℕ → Post → Type 0
IsSeated pool q post =
    IsPostOf pool post × (post.place ≡ q) × All (IsFresh pool.nodes) (hands post) × (length pool.thieves.items ≡ 1 → All (λ h. h.alone ≡ true) (hands post))
