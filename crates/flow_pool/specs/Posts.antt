-- What a clause says of a post and of its pool.
use Rattle.std.specs.Prelude.{ℕ, ◌≡◌, ◌+◌, ◌-◌, ◌<◌, true, List, [], ◌∷◌, All, Option, MatchOption, length, map, take, slice_set, slice_index_or, nat_lt, if◌then◌else◌}
use Rattle.std.specs.List.{HoldsAt}
use Rattle.crossbeam_deque.specs.declared.handles.Stealer.{Stealer}
use Rattle.crossbeam_deque.specs.Handles.{Pass, view, IsPassOf, stealer_deque, stealer_flavor, worker_deque, worker_flavor, worker_view}
use Rattle.crossbeam_deque.specs.Injected.{injector_view, IsInjectorPassOf}
use Rattle.flow_pool.specs.declared.hand.Hand.{Hand}
use Rattle.flow_pool.specs.declared.post.Post.{Post}
use Rattle.flow_pool.specs.declared.pool.Pool.{Pool}
use Rattle.flow_pool.specs.Rule.{taken, HasAsked, SawEmpty}

-- the post that is asked k posts after the next one: those after it in rising order, and then from the first
abbrev pub after : ℕ → ℕ → ℕ → ℕ
after posts place k = if nat_lt (place + 1 + k) posts then place + 1 + k else place + 1 + k - posts

-- the post's hand in each queue, in the order in which it asks them: its own queue, the entrance, the queues of the other posts
abbrev pub hands : Post → List Hand
hands post = worker_view post.own ∷ injector_view post.entry ∷ map view post.reaches.items

-- a hand in a queue for the nodes below this number
abbrev pub IsTold : ℕ → Hand → Type 0
IsTold nodes h = (h.told ≡ true) × (h.nodes ≡ nodes)

-- what holds of each place of the list and the element there
abbrev pub Each : {A : Type 0} → (ℕ → A → Type 0) → List A → Type 0
Each {A} P xs = (k : ℕ) (d : A) → k < length xs → P k (slice_index_or xs k d)

-- the post at this place reaches the queue of each other post, in the order in which it asks them
abbrev pub AreReaches : {T A V P : Type 0} → List (Stealer T A V P) → ℕ → List (Pass T V A) → Type 0
AreReaches thieves place reaches = (length reaches + 1 ≡ length thieves) × Each (λ k r. HoldsAt (λ t. IsPassOf (stealer_deque t) r) thieves (after (length thieves) place k)) reaches

-- the hands there were told how many nodes the pool has
abbrev pub AreTold : {T A : Type 0} → List (Pass T Hand A) → Type 0
AreTold {T} {A} reaches = All (λ (r : Pass T Hand A). (view r).told ≡ true) reaches

-- it is a post of this pool, and its queue is the one that the others reach there
pub record IsPostOf (pool : Pool) (post : Post) : Type 0 where
  pub place : post.place < length pool.thieves.items
  pub own : HoldsAt (λ t. stealer_deque t ≡ worker_deque post.own) pool.thieves.items post.place
  pub flavor : worker_flavor post.own ≡ 0
  pub flavors : All (λ t. stealer_flavor t ≡ 0) pool.thieves.items
  pub entry : IsInjectorPassOf pool.entrance post.entry
  pub reaches : AreReaches pool.thieves.items post.place post.reaches.items
  pub told : All (IsTold pool.nodes) (hands post)

-- the node left one of the queues, and each queue that was asked before it was empty at a moment
abbrev pub LeftOne : ℕ → List Hand → List Hand → Type 0
LeftOne x old new =
    (k : ℕ) × (k < length old) × ((d : Hand) → (new ≡ slice_set old k (taken (x ∷ []) (slice_index_or old k d))) × (x < (slice_index_or old k d).nodes)) × All SawEmpty (take k old)

-- what asking the queues in turn tells: each was empty at a moment, or a node of the pool left one of them
abbrev pub HasAskedAll : Option ℕ → List Hand → List Hand → Type 0
HasAskedAll answer old new = MatchOption answer ((new ≡ old) × All SawEmpty old) (λ x. LeftOne x old new)

-- the same of the k-th alone
abbrev pub HasAskedAt : Option ℕ → ℕ → List Hand → List Hand → Type 0
HasAskedAt answer k old new = (w : Hand) × (new ≡ slice_set old k w) × ((d : Hand) → HasAsked answer (slice_index_or old k d) w)
