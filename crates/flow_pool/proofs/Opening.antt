-- How a pool and its posts are made.
use Rattle.std.proofs.Common.{◌≡◌, ℕ, ◌+◌, ◌<◌, true, List, [], ◌∷◌, ◌++◌, All, Global, length, map, get_or, set, sym, ap, ◌∙◌, subst, arith}
use Rattle.std.specs.List.{HoldsAt}
use Rattle.std.proofs.lemmas.List.{length-set, length-append, length-map}
use Rattle.std.proofs.lemmas.List.Elements.{at_read, All-cons, All-map, All-weaker}
use Rattle.crossbeam_deque.specs.declared.handles.Stealer.{Stealer}
use Rattle.crossbeam_deque.specs.Handles.{Pass, view, IsPassOf, stealer_deque, stealer_flavor, worker_deque, worker_flavor, worker_view, SameWorker}
use Rattle.crossbeam_deque.specs.Injected.{injector_view, IsInjectorPassOf}
use Rattle.flow_pool.specs.declared.hand.Hand.{Hand}
use Rattle.flow_pool.specs.declared.hand.Fair.{Fair}
use Rattle.flow_pool.specs.declared.post.Post.{Post}
use Rattle.flow_pool.specs.declared.pool.Pool.{Pool}
use Rattle.flow_pool.specs.Rule.{sharing}
use Rattle.flow_pool.specs.Posts.{Each, after, hands, IsTold, AreReaches}
use Rattle.flow_pool.specs.Opening.{IsFresh, IsOpened, IsReached, IsBegun, AreBegun, IsSeated}
use Rattle.flow_pool.proofs.Places.{each_push, each_set, each_set_but, each_at}

abbrev pub Thief : Type 0
Thief = Stealer ℕ Global Hand Fair

abbrev pub Reach : Type 0
Reach = Pass ℕ Hand Global

-- a handle for the queue of the post at the place q
abbrev pub Reaches : List Post → ℕ → Thief → Type 0
Reaches list q t = HoldsAt (λ (post : Post). (stealer_deque t ≡ worker_deque post.own) × (stealer_flavor t ≡ 0)) list q

pub one_more : (list : List Post) (thieves : List Thief) (place : ℕ) (s : Thief) (post : Post) → length thieves ≡ place → place < length list → post ≡ get_or list place post
    → (stealer_deque s ≡ worker_deque post.own) × (stealer_flavor s ≡ worker_flavor post.own) → Each (λ q (p : Post). worker_flavor p.own ≡ 0) list
    → Each (Reaches list) thieves → (length (thieves ++ s ∷ []) ≡ place + 1) × Each (Reaches list) (thieves ++ s ∷ [])
one_more list thieves place s post long l is a flavors all =
    let flavor : worker_flavor post.own ≡ 0 = each_at (λ q (p : Post). worker_flavor p.own ≡ 0) list place post flavors l is in
    let here : Reaches list place s = at_read list (λ (p : Post). (stealer_deque s ≡ worker_deque p.own) × (stealer_flavor s ≡ 0)) place post l is (a.0, a.1 ∙ flavor) in
    (omega (arith, length-append thieves (s ∷ [])), each_push (Reaches list) thieves s all (subst (λ q. Reaches list q s) (sym long) here))

-- seen from the posts
pub reached : (list : List Post) (thieves : List Thief) → length thieves ≡ length list → Each (Reaches list) thieves
    → Each (λ q (post : Post). HoldsAt (λ (t : Thief). (stealer_deque t ≡ worker_deque post.own) × (stealer_flavor t ≡ 0)) thieves q) list
reached list thieves long all q d l t = all q t (omega arith) d

-- the pool has its handles now
pub begun : (old new : Pool) (posts : ℕ) (list : List Post) → new.entrance ≡ old.entrance → new.nodes ≡ old.nodes → length list ≡ posts → length new.thieves.items ≡ length list
    → Each (IsOpened old posts) list → Each (IsReached new) list → AreBegun new list
begun old new posts list same nodes many long opened all = (
  long,
  λ q d l. let o = opened q d l in (
    record {
      place = o.place;
      flavor = o.flavor;
      entry = subst (λ e. IsInjectorPassOf e (get_or list q d).entry) (sym same) o.entry;
      own_fresh = subst (λ n. IsFresh n (worker_view (get_or list q d).own)) (sym nodes) o.own_fresh;
      entry_fresh = subst (λ n. IsFresh n (injector_view (get_or list q d).entry)) (sym nodes) o.entry_fresh;
      reaches_fresh = subst (λ n. All (λ (r : Reach). IsFresh n (view r)) (get_or list q d).reaches.items) (sym nodes) o.reaches_fresh;
      alone = λ one. o.alone (sym many ∙ (sym long ∙ one));
    },
    all q d l,
  ),
)

-- another post shares this one's queue
pub opened_again : (pool : Pool) (posts q : ℕ) (post new : Post) → IsOpened pool posts q post → (posts ≡ 1 → ⊥) → new.place ≡ post.place → new.entry ≡ post.entry → new.reaches ≡ post.reaches
    → SameWorker post.own new.own → worker_view new.own ≡ sharing (worker_view post.own) → IsOpened pool posts q new
opened_again pool posts q post new o many place entry reaches same shares = record {
  place = place ∙ o.place;
  flavor = same.1 ∙ o.flavor;
  entry = subst (λ e. IsInjectorPassOf pool.entrance e) (sym entry) o.entry;
  own_fresh = subst (λ h. IsFresh pool.nodes h) (sym shares) o.own_fresh;
  entry_fresh = subst (λ e. IsFresh pool.nodes (injector_view e)) (sym entry) o.entry_fresh;
  reaches_fresh = subst (λ (rs : List Reach). All (λ (r : Reach). IsFresh pool.nodes (view r)) rs) (sym (ap (λ v. v.items) reaches)) o.reaches_fresh;
  alone = λ one. absurd (many one);
}

pub begun_again : (pool : Pool) (list : List Post) (at : ℕ) (post new : Post) → AreBegun pool list → at < length list → post ≡ get_or list at post → 1 < length list
    → new.place ≡ post.place → new.entry ≡ post.entry → new.reaches ≡ post.reaches → SameWorker post.own new.own → worker_view new.own ≡ sharing (worker_view post.own) → AreBegun pool (set list at new)
begun_again pool list at post new b l is many place entry reaches same shares =
    let was : IsBegun pool at post = each_at (IsBegun pool) list at post b.1 l is in
    let long = b.0 in
    let now : IsBegun pool at new = (opened_again pool (length pool.thieves.items) at post new was.0 (λ one. absurd (omega arith)) place entry reaches same shares, λ t. ((was.1 t).0 ∙ sym same.0, (was.1 t).1)) in
    (long ∙ sym (length-set list at new), each_set (IsBegun pool) list at new b.1 now)

abbrev pub HasReaches : List Post → ℕ → Post → Type 0
HasReaches old q post = HoldsAt (λ (was : Post). post.reaches ≡ was.reaches) old q

pub has_reaches : (old list : List Post) (at : ℕ) (post new : Post) → (length list ≡ length old) × Each (HasReaches old) list → at < length list → post ≡ get_or list at post → new.reaches ≡ post.reaches
    → (length (set list at new) ≡ length old) × Each (HasReaches old) (set list at new)
has_reaches old list at post new h l is same =
    let was : HasReaches old at post = each_at (HasReaches old) list at post h.1 l is in
    (length-set list at new ∙ h.0, each_set (HasReaches old) list at new h.1 (λ d. same ∙ was d))

abbrev pub ReachesAfter : List Thief → ℕ → ℕ → Reach → Type 0
ReachesAfter thieves place k r = HoldsAt (λ (t : Thief). IsPassOf (stealer_deque t) r) thieves (after (length thieves) place k)

-- one more hand in a queue of another post
pub reaches_more : (pool : Pool) (place at k : ℕ) (reaches : List Reach) (r : Reach) (post : Post) → Each (ReachesAfter pool.thieves.items place) reaches → length reaches ≡ k
    → IsReached pool at post → IsPassOf (worker_deque post.own) r → at ≡ after (length pool.thieves.items) place k → Each (ReachesAfter pool.thieves.items place) (reaches ++ r ∷ [])
reaches_more pool place at k reaches r post all long reached pass is =
    let here : HoldsAt (λ (t : Thief). IsPassOf (stealer_deque t) r) pool.thieves.items at = λ t. subst (λ w. IsPassOf w r) (sym (reached t).0) pass in
    let there : ReachesAfter pool.thieves.items place k r = subst (λ j. HoldsAt (λ (t : Thief). IsPassOf (stealer_deque t) r) pool.thieves.items j) is here in
    each_push (ReachesAfter pool.thieves.items place) reaches r all (subst (λ j. ReachesAfter pool.thieves.items place j r) (sym long) there)

-- the posts before this place have their hands in the other queues
abbrev pub Seats : Pool → ℕ → ℕ → Post → Type 0
Seats pool place q post = q < place → AreReaches pool.thieves.items q post.reaches.items

pub seats_stay : (pool : Pool) (place : ℕ) (old new : List Post) → Each (Seats pool place) old → (length new ≡ length old) × Each (HasReaches old) new → Each (Seats pool place) new
seats_stay pool place old new all h q d l m =
    let is = h.1 q d l d in
    let long = h.0 in
    subst (λ (rs : List Reach). AreReaches pool.thieves.items q rs) (sym (ap (λ v. v.items) is)) (all q d (omega arith) m)

pub seats_more : (pool : Pool) (place : ℕ) (list : List Post) (new : Post) → Each (Seats pool place) list → AreReaches pool.thieves.items place new.reaches.items → Each (Seats pool (place + 1)) (set list place new)
seats_more pool place list new all here = each_set_but (Seats pool (place + 1)) list place new (λ q d l apart m. all q d l (omega arith)) (λ _. here)

-- the hands of the post at this place are put in
pub begun_with : (pool : Pool) (list : List Post) (at : ℕ) (post new : Post) → AreBegun pool list → at < length list → post ≡ get_or list at post → new.place ≡ post.place → new.own ≡ post.own → new.entry ≡ post.entry
    → All (λ (r : Reach). IsFresh pool.nodes (view r)) new.reaches.items → AreBegun pool (set list at new)
begun_with pool list at post new b l is place own entry fresh =
    let was : IsBegun pool at post = each_at (IsBegun pool) list at post b.1 l is in
    let o = was.0 in
    let opened : IsOpened pool (length pool.thieves.items) at new = record {
      place = place ∙ o.place;
      flavor = subst (λ w. worker_flavor w ≡ 0) (sym own) o.flavor;
      entry = subst (λ e. IsInjectorPassOf pool.entrance e) (sym entry) o.entry;
      own_fresh = subst (λ w. IsFresh pool.nodes (worker_view w)) (sym own) o.own_fresh;
      entry_fresh = subst (λ e. IsFresh pool.nodes (injector_view e)) (sym entry) o.entry_fresh;
      reaches_fresh = fresh;
      alone = λ one. (subst (λ w. (worker_view {V = Hand} w).alone ≡ true) (sym own) (o.alone one).0, subst (λ e. (injector_view {V = Hand} e).alone ≡ true) (sym entry) (o.alone one).1);
    } in
    let now : IsReached pool at new = λ t. ((was.1 t).0 ∙ ap (λ w. worker_deque w) (sym own), (was.1 t).1) in
    (b.0 ∙ sym (length-set list at new), each_set (IsBegun pool) list at new b.1 (opened, now))

none : (P : Hand → Type 0) (hs : List Hand) → length hs ≡ 0 → All P hs
none P hs e k h m = absurd (omega arith)

-- all posts have their hands
pub seated : (pool : Pool) (place : ℕ) (list : List Post) → AreBegun pool list → place ≡ length list → Each (Seats pool place) list → Each (IsSeated pool) list
seated pool place list b all_of seats q d l =
    let post : Post = get_or list q d in
    let nodes : ℕ = pool.nodes in
    let thieves : List Thief = pool.thieves.items in
    let o : IsOpened pool (length thieves) q post = (b.1 q d l).0 in
    let long : length thieves ≡ length list = b.0 in
    let flavors : All (λ (t : Thief). stealer_flavor t ≡ 0) thieves = λ k t m. ((b.1 k d (omega arith)).1 t).1 in
    let reaches : AreReaches thieves q post.reaches.items = seats q d l (omega arith) in
    let views : All (IsFresh nodes) (map view post.reaches.items) = All-map (IsFresh nodes) view post.reaches.items o.reaches_fresh in
    let fresh : All (IsFresh nodes) (hands post) = All-cons (IsFresh nodes) (worker_view post.own) (injector_view post.entry ∷ map view post.reaches.items) o.own_fresh (All-cons (IsFresh nodes) (injector_view post.entry) (map view post.reaches.items) o.entry_fresh views) in
    let alone : length thieves ≡ 1 → All (λ (h : Hand). h.alone ≡ true) (hands post) = λ one.
    All-cons (λ (h : Hand). h.alone ≡ true) (worker_view post.own) (injector_view post.entry ∷ map view post.reaches.items) (o.alone one).0
    (All-cons (λ (h : Hand). h.alone ≡ true) (injector_view post.entry) (map view post.reaches.items) (o.alone one).1 (none (λ (h : Hand). h.alone ≡ true) (map view post.reaches.items) (let n = reaches.0 in omega (arith, length-map post.reaches.items view)))) in (
      record {
        place = subst (λ j. j < length thieves) (sym o.place) (omega arith);
        own = λ t. ap (λ j. stealer_deque (get_or thieves j t)) o.place ∙ ((b.1 q d l).1 t).0;
        flavor = o.flavor;
        flavors = flavors;
        entry = o.entry;
        reaches = subst (λ j. AreReaches thieves j post.reaches.items) (sym o.place) reaches;
        told = All-weaker (IsFresh nodes) (IsTold nodes) (λ h f. f.0) (hands post) fresh;
      },
      o.place,
      fresh,
      alone,
    )
