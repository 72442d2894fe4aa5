-- What asking the queues in turn tells.
use Rattle.std.proofs.Common.{◌≡◌, ℕ, suc, ◌+◌, ◌<◌, ◌≤◌, List, [], ◌∷◌, All, Option, Some, None, IfSome, length, take, get_or, set, ap, ◌∙◌, subst, arith}
use Rattle.std.proofs.lemmas.List.{set-get_or, take_all}
use Rattle.std.proofs.lemmas.List.Elements.{All-nil, All-cons, All-same, All-set, All-get_or, All-more}
use Rattle.flow_pool.specs.declared.hand.Hand.{Hand}
use Rattle.flow_pool.specs.Rule.{first, taken, SawEmpty, HasAsked}
use Rattle.flow_pool.specs.Posts.{IsTold, HasAskedAll, HasAskedAt}

-- a node of the queue that was asked first
pub asked_first : (x : ℕ) (h w : Hand) (rest : List Hand) → HasAsked (Some x) h w → HasAskedAll (Some x) (h ∷ rest) (w ∷ rest)
asked_first x h w rest a = (0, omega arith, (λ d. (ap (λ g. g ∷ rest) a.0, a.1)), All-nil SawEmpty)

-- the queue that was asked first was empty
pub asked_later : (answer : Option ℕ) (h w : Hand) (old new : List Hand) → HasAsked None h w → HasAskedAll answer old new → HasAskedAll answer (h ∷ old) (w ∷ new)
asked_later None h w old new a b = ((λ i. a.0 i ∷ b.0 i), All-cons SawEmpty h old a.1 b.1)
asked_later (Some x) h w old new a b = (
  suc b.0,
  (let l = b.1 in omega arith),
  (λ d. ((λ i. a.0 i ∷ (b.2 d).0 i), (b.2 d).1)),
  All-cons SawEmpty h (take b.0 old) a.1 b.3,
)

pub stays_told : (nodes : ℕ) (answer : Option ℕ) (old new : List Hand) → HasAskedAll answer old new → All (IsTold nodes) old → All (IsTold nodes) new
stays_told nodes None old new a t = All-same (IsTold nodes) new old a.0 t
stays_told nodes (Some x) old new a t =
    let h : Hand = get_or old a.0 first in
    All-same (IsTold nodes) new (set old a.0 (taken (x ∷ []) h)) (a.2 first).0 (All-set (IsTold nodes) old a.0 (taken (x ∷ []) h) (All-get_or (IsTold nodes) old a.0 first a.1 t) t)

pub is_node : (nodes : ℕ) (answer : Option ℕ) (old new : List Hand) → HasAskedAll answer old new → All (IsTold nodes) old → IfSome answer (λ x. x < nodes)
is_node nodes None old new a t = tt
is_node nodes (Some x) old new a t = subst (λ n. x < n) (All-get_or (IsTold nodes) old a.0 first a.1 t).1 (a.2 first).1

-- the k-th was empty as well
pub still_empty : (k : ℕ) (old before new : List Hand) → before ≡ old → k < length old → HasAskedAt None k before new → All SawEmpty (take k old) → (new ≡ old) × All SawEmpty (take (k + 1) old)
still_empty k old before new same l a e =
    let h : Hand = get_or before k first in
    let empty : SawEmpty (get_or old k first) = subst (λ (hs : List Hand). SawEmpty (get_or hs k first)) same (a.2 first).1 in
    (a.1 ∙ (ap (set before k) (a.2 first).0 ∙ (set-get_or before k first ∙ same)), All-more SawEmpty old k first l e empty)

-- the k-th had a node
pub found_one : (x k : ℕ) (old before new : List Hand) → before ≡ old → k < length old → HasAskedAt (Some x) k before new → All SawEmpty (take k old) → HasAskedAll (Some x) old new
found_one x k old before new same l a e =
    subst (λ (hs : List Hand). k < length hs → All SawEmpty (take k hs) → HasAskedAll (Some x) hs new) same
    (λ l' e'. (k, l', (λ d. (a.1 ∙ ap (set before k) (a.2 d).0, (a.2 d).1)), e')) l e

-- all of them were
pub all_empty : (k : ℕ) (old : List Hand) → length old ≤ k → All SawEmpty (take k old) → All SawEmpty old
all_empty k old l e = subst (All SawEmpty) (take_all k old l) e
