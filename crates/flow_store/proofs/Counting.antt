-- The member with so many of a list before it.
use Rattle.std.proofs.Common.{◌≡◌, ℕ, zero, suc, ◌+◌, ◌<◌, ◌≤◌, take, Bool, true, false, cond, nat_eq, Option, Some, None, List, [], ◌∷◌, get_or, slice_get, refl, sym, ap, ◌∙◌, subst, arith, inl, inr, ◌⊎◌}
use Rattle.std.specs.Option.{MatchOption}
use Rattle.std.specs.List.{sum_by, All}
use Rattle.std.proofs.lemmas.Bool.Decides.{eqb_tells}
use Rattle.std.proofs.lemmas.List.Sums.{sum_by-cons}
use Rattle.flow_machine.specs.PrintOrder.{insert_by, sorted_by}
use Rattle.flow_store.specs.Orders.{In, Rising, ahead, IsNth}
use Rattle.flow_store.proofs.Rising.{IsStrict, all-in}

module _ {X : Type 0} where
  sum-insert-by : (b : Bool) (f : X → ℕ) (x y : X) (ys rest : List X) → sum_by f rest ≡ f x + sum_by f ys → sum_by f (cond b (y ∷ rest) (x ∷ y ∷ ys)) ≡ f x + sum_by f (y ∷ ys)
  sum-insert-by true f x y ys rest later = omega (arith, sum_by-cons f y rest, sum_by-cons f y ys, later)
  sum-insert-by false f x y ys rest later = sum_by-cons f x (y ∷ ys)

  sum-insert : (test : X → X → Bool) (f : X → ℕ) (x : X) (ys : List X) → sum_by f (insert_by test x ys) ≡ f x + sum_by f ys
  sum-insert test f x [] = sum_by-cons f x []
  sum-insert test f x (y ∷ ys) = sum-insert-by (test y x) f x y ys (insert_by test x ys) (sum-insert test f x ys)

  -- a sort changes no sum
  pub sum-sorted : (test : X → X → Bool) (f : X → ℕ) (xs : List X) → sum_by f (sorted_by test xs) ≡ sum_by f xs
  sum-sorted test f [] = refl
  sum-sorted test f (x ∷ xs) = omega (arith, sum-insert test f x (sorted_by test xs), sum-sorted test f xs, sum_by-cons f x xs)

  pub member-at : (ys : List X) (k : ℕ) (x : X) → slice_get ys k ≡ Some x → In x ys
  member-at [] k x h = let never : ⊥ = cc in absurd never
  member-at (y ∷ ys) zero x h = inl (let same : x ≡ y = cc in same)
  member-at (y ∷ ys) (suc k) x h = inr (member-at ys k x h)

module _ {X : Type 0} (before : X → X → Bool) (o : IsStrict before) where
  ahead-yes : (y x : X) (ys : List X) → before y x ≡ true → ahead before (y ∷ ys) x ≡ suc (ahead before ys x)
  ahead-yes y x ys h =
      let n : ℕ = ahead before ys x in
      let one : 1 + n ≡ suc n = omega arith in
      sum_by-cons (λ z. cond (before z x) 1 0) y ys ∙ ap (λ b. cond b 1 0 + n) h ∙ one

  ahead-no : (y x : X) (ys : List X) → before y x ≡ false → ahead before (y ∷ ys) x ≡ ahead before ys x
  ahead-no y x ys h =
      let n : ℕ = ahead before ys x in
      let none : 0 + n ≡ n = omega arith in
      sum_by-cons (λ z. cond (before z x) 1 0) y ys ∙ ap (λ b. cond b 1 0 + n) h ∙ none

  not-before : (x y : X) → (before x y ≡ true → ⊥) → before x y ≡ false
  not-before x y h = by_answer (before x y) h
    where
      by_answer : (b : Bool) → (b ≡ true → ⊥) → b ≡ false
      by_answer true h = absurd (h refl)
      by_answer false h = refl

  none-ahead : (x : X) (ys : List X) → ((z : X) → In z ys → before x z ≡ true) → ahead before ys x ≡ 0
  none-ahead x [] h = refl
  none-ahead x (y ∷ ys) h =
      ahead-no y x ys (not-before y x (λ k. o.asym x y (h y (inl refl)) k)) ∙ none-ahead x ys (λ z k. h z (inr k))

  first-ahead : (x y : X) (ys : List X) → x ≡ y → Rising before (y ∷ ys) → ahead before (y ∷ ys) x ≡ 0
  first-ahead x y ys e r =
      ahead-no y x ys (not-before y x (λ k. let itself = subst (λ (w : X). before y w ≡ true) e k in o.asym y y itself itself))
      ∙ none-ahead x ys (λ z k. subst (λ (w : X). before w z ≡ true) (sym e) (r.0 z k))

  nth-at : (x : X) (ys : List X) → Rising before ys → In x ys → slice_get ys (ahead before ys x) ≡ Some x
  nth-at x [] r h = absurd h
  nth-at x (y ∷ ys) r (inl e) = ap (slice_get (y ∷ ys)) (first-ahead x y ys e r) ∙ ap Some (sym e)
  nth-at x (y ∷ ys) r (inr k) = ap (slice_get (y ∷ ys)) (ahead-yes y x ys (r.0 x k)) ∙ nth-at x ys r.1 k

  count-at : (x : X) (ys : List X) (k : ℕ) → Rising before ys → slice_get ys k ≡ Some x → ahead before ys x ≡ k
  count-at x [] k r h = let never : ⊥ = cc in absurd never
  count-at x (y ∷ ys) zero r h = first-ahead x y ys (let same : x ≡ y = cc in same) r
  count-at x (y ∷ ys) (suc k) r h = ahead-yes y x ys (r.0 x (member-at ys k x h)) ∙ ap suc (count-at x ys k r.1 h)

  nth-none : (xs ys : List X) (k : ℕ) → Rising before ys → ((z : X) → In z ys → In z xs) → ((z : X) → ahead before xs z ≡ ahead before ys z)
      → All (λ x. ahead before xs x ≡ k → ⊥) xs → (r : Option X) → slice_get ys k ≡ r → slice_get ys k ≡ None
  nth-none xs ys k rises back same none None h = h
  nth-none xs ys k rises back same none (Some z) h =
      absurd (all-in (λ x. ahead before xs x ≡ k → ⊥) xs z none (back z (member-at ys k z h)) (same z ∙ count-at z ys k rises h))

  -- a search in any order finds the member at that place of the list that rises
  pub nth-is : (xs ys : List X) (k : ℕ) (r : Option X) → Rising before ys → ((z : X) → In z xs → In z ys) → ((z : X) → In z ys → In z xs) → ((z : X) → ahead before xs z ≡ ahead before ys z)
      → MatchOption r (All (λ x. ahead before xs x ≡ k → ⊥) xs) (λ x. IsNth before xs k x) → r ≡ slice_get ys k
  nth-is xs ys k None rises there back same h = sym (nth-none xs ys k rises back same h (slice_get ys k) refl)
  nth-is xs ys k (Some x) rises there back same h = sym (ap (slice_get ys) (sym h.1 ∙ same x) ∙ nth-at x ys rises (there x h.0))

-- ---- loops

pub one-at_most : (b : Bool) → cond b 1 0 ≤ 1
one-at_most true = omega arith
one-at_most false = omega arith

module _ {X : Type 0} where
  -- the members below a place, and the one there
  pub ahead-more : (before : X → X → Bool) (xs : List X) (k : ℕ) (y x : X) → slice_get xs k ≡ Some y → ahead before (take (k + 1) xs) x ≡ ahead before (take k xs) x + cond (before y x) 1 0
  ahead-more before [] k y x h = let never : ⊥ = cc in absurd never
  ahead-more before (z ∷ xs) zero y x h =
      let same : z ≡ y = cc in
      let one : 0 + 1 ≡ suc 0 = omega arith in
      ap (λ n. ahead before (take n (z ∷ xs)) x) one ∙ sum_by-cons (λ w. cond (before w x) 1 0) z [] ∙ ap (λ w. cond (before w x) 1 0 + 0) same ∙ omega arith
  ahead-more before (z ∷ xs) (suc k) y x h =
      let up : suc k + 1 ≡ suc (k + 1) = omega arith in
      let later = ahead-more before xs k y x h in
      ap (λ n. ahead before (take n (z ∷ xs)) x) up
      ∙ omega (arith, sum_by-cons (λ w. cond (before w x) 1 0) z (take (k + 1) xs), sum_by-cons (λ w. cond (before w x) 1 0) z (take k xs), later)

  -- what holds of none below a place, nor of the one there
  pub more-none : (P : X → Type 0) (xs : List X) (k : ℕ) (y : X) → slice_get xs k ≡ Some y → ((i : ℕ) (d : X) → i < k → P (get_or xs i d) → ⊥) → (P y → ⊥)
      → (i : ℕ) (d : X) → i < k + 1 → P (get_or xs i d) → ⊥
  more-none P xs k y h none here i d below p = by_place (lt_or_eq i k below)
    where
      lt_or_eq : (i k : ℕ) → i < k + 1 → (i < k) ⊎ (i ≡ k)
      lt_or_eq i k h = by_tells (eqb_tells i k)
        where
          by_tells : ((nat_eq i k ≡ true) × (i ≡ k)) ⊎ ((nat_eq i k ≡ false) × (i ≡ k → ⊥)) → (i < k) ⊎ (i ≡ k)
          by_tells (inl (p, q)) = inr q
          by_tells (inr (p, q)) = inl (let low : i < k = omega (arith, h, q) in low)

      by_place : (i < k) ⊎ (i ≡ k) → ⊥
      by_place (inl low) = none i d low p
      by_place (inr e) = here (subst P (ap (λ n. get_or xs n d) e ∙ got xs k y d h) p)
        where
          got : (xs : List X) (k : ℕ) (y d : X) → slice_get xs k ≡ Some y → get_or xs k d ≡ y
          got [] k y d h = let never : ⊥ = cc in absurd never
          got (x ∷ xs) zero y d h = let same : x ≡ y = cc in same
          got (x ∷ xs) (suc k) y d h = got xs k y d h
