-- A post stays one of its pool while its hands change.
use Rattle.std.proofs.Common.{◌≡◌, ℕ, ◌<◌, true, List, [], ◌∷◌, All, Result, Ok, Err, OnOk, OnErr, length, map, get_or, sym, ap, ◌∙◌, subst, refl, arith}
use Rattle.std.proofs.lemmas.List.Elements.{All-nil, All-cons, All-head, All-tail, All-weaker, All-same, All-map}
use Rattle.crossbeam_deque.specs.Handles.{Pass, view, stealer_deque, worker_view, SameWorker}
use Rattle.crossbeam_deque.specs.Injected.{injector_view, IsInjectorPassOf}
use Rattle.flow_pool.specs.declared.hand.Hand.{Hand}
use Rattle.flow_pool.specs.declared.post.Post.{Post}
use Rattle.flow_pool.specs.declared.pool.Pool.{Pool}
use Rattle.flow_pool.specs.Posts.{IsTold, IsPostOf, AreReaches, AreTold, hands}

-- a node of the pool may go to a queue where the hand was told so
may_go : (pool : Pool) (h : Hand) (x : ℕ) → IsTold pool.nodes h → x < pool.nodes → (h.told ≡ true) × (x < h.nodes)
may_go pool h x t l = (t.0, subst (λ n. x < n) (sym t.1) l)

pub own_told : (pool : Pool) (post : Post) (x : ℕ) → IsPostOf pool post → x < pool.nodes → ((worker_view post.own).told ≡ true) × (x < (worker_view post.own).nodes)
own_told pool post x p l = may_go pool (worker_view post.own) x (All-head (IsTold pool.nodes) (worker_view post.own) (injector_view post.entry ∷ map view post.reaches.items) p.told) l

pub entry_told : (pool : Pool) (post : Post) (x : ℕ) → IsPostOf pool post → x < pool.nodes → ((injector_view post.entry).told ≡ true) × (x < (injector_view post.entry).nodes)
entry_told pool post x p l =
    may_go pool (injector_view post.entry) x
    (All-head (IsTold pool.nodes) (injector_view post.entry) (map view post.reaches.items) (All-tail (IsTold pool.nodes) (worker_view post.own) (injector_view post.entry ∷ map view post.reaches.items) p.told)) l

-- new hands, all of which know how many nodes there are
pub renewed : (pool : Pool) (post new : Post) → new.place ≡ post.place → SameWorker post.own new.own → IsInjectorPassOf pool.entrance new.entry → AreReaches pool.thieves.items new.place new.reaches.items
    → All (IsTold pool.nodes) (hands new) → IsPostOf pool post → IsPostOf pool new
renewed pool post new here same entry reaches told p = record {
  place = subst (λ q. q < length pool.thieves.items) (sym here) p.place;
  own = λ d. ap (λ q. stealer_deque (get_or pool.thieves.items q d)) here ∙ (p.own d ∙ sym same.0);
  flavor = same.1 ∙ p.flavor;
  flavors = p.flavors;
  entry = entry;
  reaches = reaches;
  told = told;
}

-- whatever the answer was
pub either_way : {T E : Type 0} {A B C : Type 0} (r : Result T E) → OnOk r A → OnErr r B → (A → C) → (B → C) → C
either_way (Ok x) a b f g = f a
either_way (Err x) a b f g = g b

pub told_by : (nodes : ℕ) (h w : Hand) → w.told ≡ h.told → w.nodes ≡ h.nodes → IsTold nodes h → IsTold nodes w
told_by nodes h w a b t = (a ∙ t.0, b ∙ t.1)

pub own_is_told : (pool : Pool) (post : Post) → IsPostOf pool post → IsTold pool.nodes (worker_view post.own)
own_is_told pool post p = All-head (IsTold pool.nodes) (worker_view post.own) (injector_view post.entry ∷ map view post.reaches.items) p.told

pub rest_is_told : (pool : Pool) (post : Post) → IsPostOf pool post → All (IsTold pool.nodes) (injector_view post.entry ∷ map view post.reaches.items)
rest_is_told pool post p = All-tail (IsTold pool.nodes) (worker_view post.own) (injector_view post.entry ∷ map view post.reaches.items) p.told

pub reaches_are_told : (pool : Pool) (post : Post) → IsPostOf pool post → All (IsTold pool.nodes) (map view post.reaches.items)
reaches_are_told pool post p = All-tail (IsTold pool.nodes) (injector_view post.entry) (map view post.reaches.items) (rest_is_told pool post p)

pub entry_is_told : (pool : Pool) (post : Post) → IsPostOf pool post → IsTold pool.nodes (injector_view post.entry)
entry_is_told pool post p = All-head (IsTold pool.nodes) (injector_view post.entry) (map view post.reaches.items) (rest_is_told pool post p)

pub same_worker : (post : Post) → SameWorker post.own post.own
same_worker post = (refl, refl, refl, omega arith)

abbrev Told : Hand → Type 0
Told h = h.told ≡ true

told_from : {T A : Type 0} (reaches : List (Pass T Hand A)) → All Told (map view reaches) → AreTold reaches
told_from {T} {A} [] t = All-nil (λ (r : Pass T Hand A). (view r).told ≡ true)
told_from {T} {A} (r ∷ rs) t = All-cons (λ (x : Pass T Hand A). (view x).told ≡ true) r rs (All-head Told (view r) (map view rs) t) (told_from rs (All-tail Told (view r) (map view rs) t))

pub told_reaches : {T A : Type 0} (nodes : ℕ) (reaches : List (Pass T Hand A)) → All (IsTold nodes) (map view reaches) → AreTold reaches
told_reaches nodes reaches t = told_from reaches (All-weaker (IsTold nodes) Told (λ h x. x.0) (map view reaches) t)

-- the same hands in other passes
pub told_again : {T A : Type 0} (old new : List (Pass T Hand A)) → map view new ≡ map view old → AreTold old → AreTold new
told_again old new same t = told_from new (All-same Told (map view new) (map view old) same (All-map Told view old t))
