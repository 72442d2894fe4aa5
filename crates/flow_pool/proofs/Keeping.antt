-- Each step of a queue keeps its rule.
use Rattle.std.proofs.Common.{◌≡◌, ◌≢◌, Bool, ℕ, zero, suc, ◌+◌, ◌<◌, ◌⊎◌, true, false, true≢false, List, [], ◌∷◌, ◌++◌, All, length, get_or, set, sym, refl, ap, ◌∙◌, subst, inl, inr, ⊎_elim, arith}
use Rattle.std.specs.List.{sum_by}
use Rattle.std.proofs.lemmas.List.Sums.{sum_by-set, sum_by-append, sum_by_push}
use Rattle.std.proofs.lemmas.List.Elements.{All-append, All-take, All-drop, All-nil, All-weaker}
use lib.Seq.{take-append_seam, drop-append_seam}
use mathlib.Core.Option.{some, some-injective, some-ne-none}
use lib.ListN.{get_elem?}
use Rattle.crossbeam_deque.specs.Tasks.{Pushes, Takes, Finds, FindsFew, Forks}
use Rattle.crossbeam_deque.proofs.Lists.{at_set}
use Rattle.flow_pool.specs.declared.hand.Hand.{Hand}
use Rattle.flow_pool.specs.Rule.{copies, first, idle, opened, sharing, shared, pushed, taken, Balances, SawEmpty}

within : {A : Type 0} (l : List A) (i : ℕ) (a : A) → get_elem? l i ≡ some a → (i < length l) × (get_or l i a ≡ a)
within [] i a e = absurd (some-ne-none a (sym e))
within (x ∷ xs) zero a e = (omega arith, some-injective x a e)
within (x ∷ xs) (suc i) a e = let h = within xs i a e in (let l = h.0 in omega arith, h.1)

-- the sum over all hands after one of them changed
sum_changed : (f : Hand → ℕ) (hands : List Hand) (i : ℕ) (h new : Hand) → get_elem? hands i ≡ some h → sum_by f (set hands i new) + f h ≡ sum_by f hands + f new
sum_changed f hands i h new e =
    let at = within hands i h e in
    subst (λ g. sum_by f (set hands i new) + f g ≡ sum_by f hands + f new) at.1 (sum_by-set f hands i new h at.0)

-- and after one joined
sum_joined : (f : Hand → ℕ) (hands : List Hand) (i : ℕ) (h left right : Hand) → get_elem? hands i ≡ some h → f left + f right ≡ f h → sum_by f (set hands i left ++ right ∷ []) ≡ sum_by f hands
sum_joined f hands i h left right e parts =
    let s = sum_changed f hands i h left e in
    let p = sum_by_push f (set hands i left) right in
    omega arith

copies_more : (x : ℕ) (xs ys : List ℕ) → copies x (xs ++ ys) ≡ copies x xs + copies x ys
copies_more x xs ys = sum_by-append _ xs ys

front : (P : ℕ → Type 0) (xs ys : List ℕ) → All P (xs ++ ys) → All P xs
front P xs ys h = subst (All P) (take-append_seam xs ys) (All-take P (length xs) (xs ++ ys) h)

rear : (P : ℕ → Type 0) (xs ys : List ℕ) → All P (xs ++ ys) → All P ys
rear P xs ys h = subst (All P) (drop-append_seam xs ys) (All-drop P (length xs) (xs ++ ys) h)

-- where a told hand became a told one that is alone only where it was, the rest of the rule stays
told_stays : (nodes : ℕ) (hands : List Hand) (i : ℕ) (new : Hand) → new.nodes ≡ nodes
    → ((j : ℕ) (h : Hand) → get_elem? hands j ≡ some h → h.told ≡ true → h.nodes ≡ nodes)
    → (j : ℕ) (h : Hand) → get_elem? (set hands i new) j ≡ some h → h.told ≡ true → h.nodes ≡ nodes
told_stays nodes hands i new is old j h e t =
    ⊎_elim (λ (here : (j ≡ i) × (new ≡ h)). ap (λ (g : Hand). g.nodes) (sym here.1) ∙ is) (λ (else' : (j ≢ i) × (get_elem? hands j ≡ some h)). old j h else'.1 t) (at_set hands i j new h e)

fresh_stays : (nodes : ℕ) (hands : List Hand) (i : ℕ) (new : Hand) → new.told ≡ true
    → ((j : ℕ) (h : Hand) → get_elem? hands j ≡ some h → h.told ≡ false → (h ≡ idle) ⊎ (nodes ≡ 0))
    → (j : ℕ) (h : Hand) → get_elem? (set hands i new) j ≡ some h → h.told ≡ false → (h ≡ idle) ⊎ (nodes ≡ 0)
fresh_stays nodes hands i new is old j h e f =
    ⊎_elim (λ (here : (j ≡ i) × (new ≡ h)). absurd (true≢false (sym is ∙ (ap (λ (g : Hand). g.told) here.1 ∙ f)))) (λ (else' : (j ≢ i) × (get_elem? hands j ≡ some h)). old j h else'.1 f) (at_set hands i j new h e)

abbrev Alone : List Hand → Type 0
Alone hands = (i j : ℕ) (h other : Hand) → get_elem? hands i ≡ some h → h.alone ≡ true → get_elem? hands j ≡ some other → (j ≡ i) ⊎ (other ≡ idle)

not_idle : (h : Hand) → h.told ≡ true → h ≡ idle → ⊥
not_idle h t e = true≢false (sym t ∙ ap (λ (g : Hand). g.told) e)

alone_stays : (hands : List Hand) (k : ℕ) (old new : Hand) → get_elem? hands k ≡ some old → old.told ≡ true → new.alone ≡ old.alone → Alone hands → Alone (set hands k new)
alone_stays hands k old new was t same a i j h other at_i is at_j =
    ⊎_elim
    (λ (here : (j ≡ k) × (new ≡ other)).
    ⊎_elim (λ (i_here : (i ≡ k) × (new ≡ h)). inl (here.0 ∙ sym i_here.0))
    (λ (i_else : (i ≢ k) × (get_elem? hands i ≡ some h)).
    ⊎_elim (λ (e : k ≡ i). absurd (i_else.0 (sym e))) (λ (e : old ≡ idle). absurd (not_idle old t e)) (a i k h old i_else.1 is was)) (at_set hands k i new h at_i))
    (λ (j_else : (j ≢ k) × (get_elem? hands j ≡ some other)).
    ⊎_elim (λ (i_here : (i ≡ k) × (new ≡ h)).
    ⊎_elim (λ (e : j ≡ k). absurd (j_else.0 e)) (λ (e : other ≡ idle). inr e)
    (a k j old other was (sym same ∙ (ap (λ (g : Hand). g.alone) i_here.1 ∙ is)) j_else.1))
    (λ (i_else : (i ≢ k) × (get_elem? hands i ≡ some h)). a i j h other i_else.1 is j_else.1) (at_set hands k i new h at_i)) (at_set hands k j new other at_j)

pub pushes : (port : ℕ) (h : Hand) (x : ℕ) → h.told ≡ true → x < h.nodes → Pushes Balances port h (x ∷ []) (λ w. w ≡ pushed (x ∷ []) h)
pushes port h x t small items hands b at =
    let w : Hand = pushed (x ∷ []) h in (
      w,
      record {
        nodes = b.nodes;
        even = λ y.
            let s = sum_changed (λ g. copies y g.pushed) hands port h w at in
            let u = sum_changed (λ g. copies y g.taken) hands port h w at in
            let e = b.even y in
            omega (arith, copies_more y h.pushed (x ∷ []), copies_more y items (x ∷ []));
        below = All-append (λ y. y < b.nodes) items (x ∷ []) b.below (one b.nodes (subst (λ n. x < n) (b.told port h at t) small));
        told = told_stays b.nodes hands port w (b.told port h at t) b.told;
        fresh = fresh_stays b.nodes hands port w t b.fresh;
        alone = alone_stays hands port h w at t refl b.alone;
      },
      refl,
    )
  where
    one : (n : ℕ) → x < n → All (λ y. y < n) (x ∷ [])
    one n l zero d in' = l
    one n l (suc k) d in' = absurd (omega arith)

pub takes : (port : ℕ) (h : Hand) (most : ℕ) → h.told ≡ true → Takes Balances port h most (λ xs w. (w ≡ taken xs h) × All (λ x. x < h.nodes) xs)
takes port h most t xs items hands _ _ b at =
    let w : Hand = taken xs h in
    let is : h.nodes ≡ b.nodes = b.told port h at t in
    let kept : Balances items (set hands port w) = record {
      nodes = b.nodes;
      even = λ y.
          let s = sum_changed (λ g. copies y g.pushed) hands port h w at in
          let u = sum_changed (λ g. copies y g.taken) hands port h w at in
          let e = b.even y in
          omega (arith, copies_more y h.taken xs, copies_more y xs items);
      below = rear (λ y. y < b.nodes) xs items b.below;
      told = told_stays b.nodes hands port w is b.told;
      fresh = fresh_stays b.nodes hands port w t b.fresh;
      alone = alone_stays hands port h w at t refl b.alone;
    } in
    let small : All (λ y. y < h.nodes) xs = subst (λ n. All (λ y. y < n) xs) (sym is) (front (λ y. y < b.nodes) xs items b.below) in
    (w, kept, (refl, small))

pub finds : (port : ℕ) (h : Hand) → Finds Balances port h (SawEmpty h)
finds port h hands b at = (hands, port, b, at)

pub finds_few : (few port : ℕ) (h : Hand) → few ≡ 0 → FindsFew Balances few port h (SawEmpty h)
finds_few few port h none items hands short b at = (hands, port, subst (λ l. Balances l hands) (nothing items (omega arith)) b, at)
  where
    nothing : (l : List ℕ) → length l ≡ 0 → l ≡ []
    nothing [] e = refl
    nothing (x ∷ xs) e = absurd (omega arith)

-- where a hand joined behind the others, a hand is one of those, or the new one
behind : (l : List Hand) (new h : Hand) (j : ℕ) → get_elem? (l ++ new ∷ []) j ≡ some h → (get_elem? l j ≡ some h) ⊎ ((j ≡ length l) × (new ≡ h))
behind [] new h zero e = inr (refl, some-injective new h e)
behind [] new h (suc j) e = absurd (some-ne-none h (sym e))
behind (x ∷ xs) new h zero e = inl e
behind (x ∷ xs) new h (suc j) e = ⊎_elim inl (λ (k : (j ≡ length xs) × (new ≡ h)). inr (ap suc k.0, k.1)) (behind xs new h j e)

-- the hand at j after the one at i became left, and right joined
abbrev Places : List Hand → ℕ → Hand → Hand → ℕ → Hand → Type 0
Places hands i left right j h = ((j ≡ i) × (left ≡ h)) ⊎ (((j ≢ i) × (get_elem? hands j ≡ some h)) ⊎ ((j ≡ length (set hands i left)) × (right ≡ h)))

places : (hands : List Hand) (i : ℕ) (left right : Hand) (j : ℕ) (h : Hand) → get_elem? (set hands i left ++ right ∷ []) j ≡ some h → Places hands i left right j h
places hands i left right j h e =
    ⊎_elim (λ (old : get_elem? (set hands i left) j ≡ some h). ⊎_elim inl (λ x. inr (inl x)) (at_set hands i j left h old)) (λ x. inr (inr x)) (behind (set hands i left) right h j e)

clash : (b : Hand → Bool) (x y : Hand) → x ≡ y → b x ≡ false → b y ≡ true → ⊥
clash b x y e f t = true≢false (sym t ∙ (ap b (sym e) ∙ f))

pub share : (port : ℕ) (h : Hand) → h.told ≡ true → Forks Balances port h (sharing h) (shared h)
share port h t items hands b at =
    let left : Hand = sharing h in
    let right : Hand = shared h in
    record {
      nodes = b.nodes;
      even = λ y.
          let s = sum_joined (λ g. copies y g.pushed) hands port h left right at (omega arith) in
          let u = sum_joined (λ g. copies y g.taken) hands port h left right at (omega arith) in
          let e = b.even y in
          omega arith;
      below = b.below;
      told = λ j g e is.
          ⊎_elim (λ (here : (j ≡ port) × (left ≡ g)). ap (λ (k : Hand). k.nodes) (sym here.1) ∙ b.told port h at t)
          (⊎_elim (λ (else' : (j ≢ port) × (get_elem? hands j ≡ some g)). b.told j g else'.1 is)
          (λ (new : (j ≡ length (set hands port left)) × (right ≡ g)). ap (λ (k : Hand). k.nodes) (sym new.1) ∙ b.told port h at t)) (places hands port left right j g e);
      fresh = λ j g e is.
          ⊎_elim (λ (here : (j ≡ port) × (left ≡ g)). absurd (true≢false (sym t ∙ (ap (λ (k : Hand). k.told) here.1 ∙ is))))
          (⊎_elim (λ (else' : (j ≢ port) × (get_elem? hands j ≡ some g)). b.fresh j g else'.1 is)
          (λ (new : (j ≡ length (set hands port left)) × (right ≡ g)). absurd (true≢false (sym t ∙ (ap (λ (k : Hand). k.told) new.1 ∙ is))))) (places hands port left right j g e);
      alone = λ i j g other at_i is at_j.
          ⊎_elim (λ (here : (i ≡ port) × (left ≡ g)). absurd (clash (λ k. k.alone) left g here.1 refl is))
          (⊎_elim (λ (else' : (i ≢ port) × (get_elem? hands i ≡ some g)).
          ⊎_elim (λ (e : port ≡ i). absurd (else'.0 (sym e))) (λ (e : h ≡ idle). absurd (not_idle h t e)) (b.alone i port g h else'.1 is at))
          (λ (new : (i ≡ length (set hands port left)) × (right ≡ g)). absurd (clash (λ k. k.alone) right g new.1 refl is))) (places hands port left right i g at_i);
    }

pub opens : (port nodes : ℕ) → Forks Balances port first (opened nodes) idle
opens port nodes items hands b at =
    let left : Hand = opened nodes in
    let others : (j : ℕ) (g : Hand) → j ≢ port → get_elem? hands j ≡ some g → g ≡ idle = λ j g apart e. ⊎_elim (λ (x : j ≡ port). absurd (apart x)) (λ (x : g ≡ idle). x) (b.alone port j first g at refl e) in
    let none : b.nodes ≡ 0 = ⊎_elim (λ (e : first ≡ idle). absurd (clash (λ k. k.alone) idle first (sym e) refl refl)) (λ (e : b.nodes ≡ 0). e) (b.fresh port first at refl) in
    record {
      nodes = nodes;
      even = λ y.
          let s = sum_joined (λ g. copies y g.pushed) hands port first left idle at refl in
          let u = sum_joined (λ g. copies y g.taken) hands port first left idle at refl in
          let e = b.even y in
          omega arith;
      below = All-weaker (λ x. x < b.nodes) (λ x. x < nodes) (λ x l. absurd (omega arith)) items b.below;
      told = λ j g e is.
          ⊎_elim (λ (here : (j ≡ port) × (left ≡ g)). ap (λ (k : Hand). k.nodes) (sym here.1))
          (⊎_elim (λ (else' : (j ≢ port) × (get_elem? hands j ≡ some g)). absurd (not_idle g is (others j g else'.0 else'.1)))
          (λ (new : (j ≡ length (set hands port left)) × (idle ≡ g)). absurd (not_idle g is (sym new.1)))) (places hands port left idle j g e);
      fresh = λ j g e is.
          ⊎_elim (λ (here : (j ≡ port) × (left ≡ g)). absurd (true≢false (ap (λ (k : Hand). k.told) here.1 ∙ is)))
          (⊎_elim (λ (else' : (j ≢ port) × (get_elem? hands j ≡ some g)). inl (others j g else'.0 else'.1))
          (λ (new : (j ≡ length (set hands port left)) × (idle ≡ g)). inl (sym new.1))) (places hands port left idle j g e);
      alone = λ i j g other at_i is at_j.
          ⊎_elim (λ (j_here : (j ≡ port) × (left ≡ other)).
          ⊎_elim (λ (i_here : (i ≡ port) × (left ≡ g)). inl (j_here.0 ∙ sym i_here.0))
          (⊎_elim (λ (i_else : (i ≢ port) × (get_elem? hands i ≡ some g)). absurd (clash (λ k. k.alone) idle g (sym (others i g i_else.0 i_else.1)) refl is))
          (λ (i_new : (i ≡ length (set hands port left)) × (idle ≡ g)). absurd (clash (λ k. k.alone) idle g i_new.1 refl is))) (places hands port left idle i g at_i))
          (⊎_elim (λ (j_else : (j ≢ port) × (get_elem? hands j ≡ some other)). inr (others j other j_else.0 j_else.1))
          (λ (j_new : (j ≡ length (set hands port left)) × (idle ≡ other)). inr (sym j_new.1))) (places hands port left idle j other at_j);
    }

pub gives : (port : ℕ) (h : Hand) → h.told ≡ true → Forks Balances port h idle h
gives port h t items hands b at =
    record {
      nodes = b.nodes;
      even = λ y.
          let s = sum_joined (λ g. copies y g.pushed) hands port h idle h at (omega arith) in
          let u = sum_joined (λ g. copies y g.taken) hands port h idle h at (omega arith) in
          let e = b.even y in
          omega arith;
      below = b.below;
      told = λ j g e is.
          ⊎_elim (λ (here : (j ≡ port) × (idle ≡ g)). absurd (not_idle g is (sym here.1)))
          (⊎_elim (λ (else' : (j ≢ port) × (get_elem? hands j ≡ some g)). b.told j g else'.1 is)
          (λ (new : (j ≡ length (set hands port idle)) × (h ≡ g)). ap (λ (k : Hand). k.nodes) (sym new.1) ∙ b.told port h at t)) (places hands port idle h j g e);
      fresh = λ j g e is.
          ⊎_elim (λ (here : (j ≡ port) × (idle ≡ g)). inl (sym here.1))
          (⊎_elim (λ (else' : (j ≢ port) × (get_elem? hands j ≡ some g)). b.fresh j g else'.1 is)
          (λ (new : (j ≡ length (set hands port idle)) × (h ≡ g)). absurd (true≢false (sym t ∙ (ap (λ (k : Hand). k.told) new.1 ∙ is))))) (places hands port idle h j g e);
      alone = λ i j g other at_i is at_j.
          ⊎_elim (λ (i_here : (i ≡ port) × (idle ≡ g)). absurd (clash (λ k. k.alone) idle g i_here.1 refl is))
          (⊎_elim (λ (i_else : (i ≢ port) × (get_elem? hands i ≡ some g)).
          ⊎_elim (λ (e : port ≡ i). absurd (i_else.0 (sym e))) (λ (e : h ≡ idle). absurd (not_idle h t e)) (b.alone i port g h i_else.1 is at))
          (λ (i_new : (i ≡ length (set hands port idle)) × (h ≡ g)).
          ⊎_elim (λ (j_here : (j ≡ port) × (idle ≡ other)). inr (sym j_here.1))
          (⊎_elim (λ (j_else : (j ≢ port) × (get_elem? hands j ≡ some other)).
          ⊎_elim (λ (e : j ≡ port). absurd (j_else.0 e)) (λ (e : other ≡ idle). inr e) (b.alone port j h other at (ap (λ (k : Hand). k.alone) i_new.1 ∙ is) j_else.1))
          (λ (j_new : (j ≡ length (set hands port idle)) × (h ≡ other)). inl (j_new.0 ∙ sym i_new.0))) (places hands port idle h j other at_j))) (places hands port idle h i g at_i);
    }

pub starts : Balances [] (first ∷ [])
starts = record {
  nodes = 0;
  even = λ x. refl;
  below = All-nil (λ x. x < 0);
  told = λ i h e t. absurd (untold i h e t);
  fresh = λ i h e f. inr refl;
  alone = λ i j h other at_i is at_j. inl (only j other at_j ∙ sym (only i h at_i));
}
  where
    only : (i : ℕ) (h : Hand) → get_elem? (first ∷ []) i ≡ some h → i ≡ 0
    only zero h e = refl
    only (suc i) h e = absurd (some-ne-none h (sym e))

    untold : (i : ℕ) (h : Hand) → get_elem? (first ∷ []) i ≡ some h → h.told ≡ true → ⊥
    untold zero h e t = clash (λ k. k.told) first h (some-injective first h e) refl t
    untold (suc i) h e t = some-ne-none h (sym e)
