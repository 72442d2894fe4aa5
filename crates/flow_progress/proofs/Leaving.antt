-- Each caller leaves once.
use Rattle.std.proofs.Common.{◌≡◌, ◌⊎◌, inl, inr, ⊎_elim, ℕ, zero, suc, ◌+◌, ◌<◌, ◌≤◌, Bool, true, false, cond, not, ◌&&◌, ◌||◌, eqb, nat_lt, List, [], ◌∷◌, ◌++◌, refl, sym, ap, ◌∙◌, subst, arith, eq-eqb}
use Rattle.std.specs.List.{count_by, list_any, list_all}
use Rattle.std.proofs.lemmas.Bool.{eqb-true, ltb-true}
use Rattle.std.proofs.lemmas.List.Folds.{list_any-append, list_all-append}
use Rattle.std.proofs.lemmas.List.Sums.{sum_by-append}
use Rattle.flow_item.specs.declared.event.Event.{Event}
use Rattle.flow_item.specs.declared.event.Event.TheVariants as E
use Rattle.flow_item.specs.declared.event.Party.TheVariants.{Caller}
use Rattle.flow_item.specs.Events.{parties_of}
use Rattle.flow_item.specs.Legal.{takes_part, projection}
use Rattle.flow_item.proofs.Tests.{and_left, and_right}
use Rattle.flow_item.proofs.Journals.{projection-append, holds_along}
use Rattle.flow_shape.specs.declared.Shape.{Shape}
use Rattle.flow_machine.specs.State.{one_if}
use Rattle.flow_machine.specs.Machine.{is_leave, allows, is_legal, may_follow, is_of_run}
use Rattle.flow_progress.specs.NeverStuck.{has_left}
use Rattle.flow_progress.specs.Leaving.{CallersLeaveOnce}

-- ---- sums over the numbers below another

abbrev sum_below : (ℕ → ℕ) → ℕ → ℕ
sum_below f zero = 0
sum_below f (suc n) = sum_below f n + f n

few : (f : ℕ → ℕ) → ((c : ℕ) → f c ≤ 1) → (n : ℕ) → sum_below f n ≤ n
few f h zero = omega arith
few f h (suc n) =
    let rest = few f h n in
    let one = h n in
    omega (arith, rest, one)

same-sum : (f g : ℕ → ℕ) (n : ℕ) → ((c : ℕ) → c < n → g c ≡ f c) → sum_below g n ≡ sum_below f n
same-sum f g zero h = refl
same-sum f g (suc n) h =
    let rest = same-sum f g n (λ c below. h c (omega (arith, below))) in
    let one = h n (omega arith) in
    omega (arith, rest, one)

-- where one of them is more by one
one-more : (f g : ℕ → ℕ) (k n : ℕ) → k < n → g k ≡ f k + 1 → ((c : ℕ) → (c ≡ k → ⊥) → g c ≡ f c) → sum_below g n ≡ sum_below f n + 1
one-more f g k zero below here other = absurd (omega (arith, below))
one-more f g k (suc n) below here other = by_last (λ less. one-more f g k n less here other) (eqb n k) refl
  where
    by_last : (k < n → sum_below g n ≡ sum_below f n + 1) → (b : Bool) → eqb n k ≡ b → sum_below g (suc n) ≡ sum_below f (suc n) + 1
    by_last later true is =
        let same : n ≡ k = eqb-true n k is in
        let rest : sum_below g n ≡ sum_below f n = same-sum f g n (λ c less. other c (λ e. omega (arith, less, e, same))) in
        let one : g n ≡ f n + 1 = subst (λ m. g m ≡ f m + 1) (sym same) here in
        omega (arith, rest, one)
    by_last later false is =
        let apart : n ≡ k → ⊥ = λ e. let clash : true ≡ false = sym (eq-eqb n k e) ∙ is in cc in
        let rest = later (omega (arith, below, apart)) in
        let one = other n apart in
        omega (arith, rest, one)

-- ---- who has left

single : {X : Type 0} (p : X → Bool) (x : X) → list_any p (x ∷ []) ≡ p x
single p x = by (p x)
  where
    by : (b : Bool) → list_any (λ c. c) (b ∷ []) ≡ b
    by true = refl
    by false = refl

left-more : (es : List Event) (e : Event) (c : ℕ) → has_left (es ++ e ∷ []) c ≡ (has_left es c || (takes_part (parties_of e) (Caller c) && is_leave e))
left-more es e c =
    ap (list_any is_leave) (projection-append parties_of (Caller c) es (e ∷ []))
    ∙ (list_any-append is_leave (projection parties_of (Caller c) es) (projection parties_of (Caller c) (e ∷ [])) ∙ ap (λ b. has_left es c || b) (last (takes_part (parties_of e) (Caller c))))
  where
    last : (b : Bool) → list_any is_leave (cond b (e ∷ []) []) ≡ (b && is_leave e)
    last true = single is_leave e
    last false = refl

-- only a leave changes who has left
none-left : (es : List Event) (e : Event) → is_leave e ≡ false → (c : ℕ) → has_left (es ++ e ∷ []) c ≡ has_left es c
none-left es e h c = left-more es e c ∙ none (has_left es c) (takes_part (parties_of e) (Caller c)) (is_leave e) h
  where
    none : (a b d : Bool) → d ≡ false → (a || (b && d)) ≡ a
    none true b d h = refl
    none false true d h = h
    none false false d h = refl

other-left : (es : List Event) (k c : ℕ) → (c ≡ k → ⊥) → has_left (es ++ E.Leave k ∷ []) c ≡ has_left es c
other-left es k c apart = left-more es (E.Leave k) c ∙ none (has_left es c) (eqb k c) (by (eqb k c) refl)
  where
    by : (b : Bool) → eqb k c ≡ b → b ≡ false
    by true is = absurd (apart (sym (eqb-true k c is)))
    by false is = refl

    none : (a b : Bool) → b ≡ false → (a || ((b || false) && true)) ≡ a
    none true b h = refl
    none false true h = h
    none false false h = refl

this-left : (es : List Event) (k : ℕ) → has_left (es ++ E.Leave k ∷ []) k ≡ true
this-left es k = left-more es (E.Leave k) k ∙ some (has_left es k) (eqb k k) (eq-eqb k k refl)
  where
    some : (a b : Bool) → b ≡ true → (a || ((b || false) && true)) ≡ true
    some true b h = refl
    some false true h = refl
    some false false h = h

-- ---- each has left once at most

not-true : (b : Bool) → not b ≡ true → b ≡ false
not-true true h = cc
not-true false h = refl

at-most-one : (b : Bool) → one_if b ≤ 1
at-most-one true = omega arith
at-most-one false = omega arith

nobody : (n : ℕ) → sum_below (λ c. one_if (has_left [] c)) n ≡ 0
nobody zero = refl
nobody (suc n) = let rest = nobody n in omega (arith, rest)

by-event : (e : Event) → (is_leave e ≡ false) ⊎ ((k : ℕ) × (e ≡ E.Leave k))
by-event (E.Leave k) = inr (k, refl)
by-event e = inl refl

count-more : (es : List Event) (e : Event) → count_by is_leave (es ++ e ∷ []) ≡ count_by is_leave es + one_if (is_leave e)
count-more es e = sum_by-append (λ x. cond (is_leave x) 1 0) es (e ∷ []) ∙ ap (λ n. count_by is_leave es + n) (last (is_leave e))
  where
    last : (b : Bool) → count_by (λ b. b) (b ∷ []) ≡ one_if b
    last true = refl
    last false = refl

module _ (shape : Shape) (callers workers : ℕ) where
  -- there are as many leaves as callers that have left
  abbrev Counted : List Event → Type 0
  Counted es = list_all (is_of_run shape callers workers) es ≡ true → count_by is_leave es ≡ sum_below (λ c. one_if (has_left es c)) callers

  leaves-more : (es : List Event) (k : ℕ) → may_follow shape es (E.Leave k) ≡ true → is_of_run shape callers workers (E.Leave k) ≡ true
      → count_by is_leave es ≡ sum_below (λ c. one_if (has_left es c)) callers
      → count_by is_leave (es ++ E.Leave k ∷ []) ≡ sum_below (λ c. one_if (has_left (es ++ E.Leave k ∷ []) c)) callers
  leaves-more es k may of same =
      let below : k < callers = ltb-true k callers (and_left (nat_lt k callers) true of) in
      let before : has_left es k ≡ false = not-true (has_left es k) (and_left (not (has_left es k)) true may) in
      let one : one_if (has_left (es ++ E.Leave k ∷ []) k) ≡ one_if (has_left es k) + 1 = ap one_if (this-left es k) ∙ sym (ap (λ b. one_if b + 1) before) in
      let sum = one-more (λ c. one_if (has_left es c)) (λ c. one_if (has_left (es ++ E.Leave k ∷ []) c)) k callers below one (λ c apart. ap one_if (other-left es k c apart)) in
      count-more es (E.Leave k) ∙ (ap (λ n. n + 1) same ∙ sym sum)

  counted-more : (es : List Event) (e : Event) → may_follow shape es e ≡ true → Counted es → Counted (es ++ e ∷ [])
  counted-more es e may before all =
      let told : (list_all (is_of_run shape callers workers) es && list_all (is_of_run shape callers workers) (e ∷ [])) ≡ true = sym (list_all-append (is_of_run shape callers workers) es (e ∷ [])) ∙ all in
      let same = before (and_left _ _ told) in
      let of : is_of_run shape callers workers e ≡ true = and_left (is_of_run shape callers workers e) true (and_right (list_all (is_of_run shape callers workers) es) _ told) in
      ⊎_elim
      (λ (none : is_leave e ≡ false).
      let sum = same-sum (λ c. one_if (has_left es c)) (λ c. one_if (has_left (es ++ e ∷ []) c)) callers (λ c below. ap one_if (none-left es e none c)) in
      let last : count_by is_leave (es ++ e ∷ []) ≡ count_by is_leave es + 0 = count-more es e ∙ ap (λ b. count_by is_leave es + one_if b) none in
      omega (arith, last, same, sum))
      (λ (leave : (k : ℕ) × (e ≡ E.Leave k)).
      subst (λ (f : Event). count_by is_leave (es ++ f ∷ []) ≡ sum_below (λ c. one_if (has_left (es ++ f ∷ []) c)) callers) (sym leave.1)
      (leaves-more es leave.0 (subst (λ (f : Event). may_follow shape es f ≡ true) leave.1 may) (subst (λ (f : Event). is_of_run shape callers workers f ≡ true) leave.1 of) same))
      (by-event e)

  counted : (es : List Event) → is_legal shape es ≡ true → Counted es
  counted es legal = holds_along parties_of (allows shape) Counted (λ h. sym (nobody callers)) counted-more es legal

pub callers-leave-once : CallersLeaveOnce
callers-leave-once shape callers workers es run =
    let sum = counted shape callers workers es (and_left _ _ run) (and_right (is_legal shape es) _ run) in
    let most = few (λ c. one_if (has_left es c)) (λ c. at-most-one (has_left es c)) callers in
    omega (arith, sum, most)
