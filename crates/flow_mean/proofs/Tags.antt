-- Pairs of tags and values: how often a list has a tag, and which value is its first.
use Rattle.std.proofs.Common.{◌≡◌, ℕ, suc, ◌+◌, ◌≤◌, Bool, true, false, cond, ◌||◌, eqb, Some, None, List, [], ◌∷◌, ◌++◌, refl, ◌∙◌, arith, eq-eqb}
use Rattle.std.proofs.lemmas.Bool.{eqb-true}
use Rattle.std.specs.List.{list_any}
use Rattle.flow_item.specs.declared.val.Val.{Val}
use Rattle.flow_item.proofs.Tests.{or_left}
use Rattle.flow_machine.proofs.Steps.{or_right}
use Rattle.flow_mean.specs.Maps.{has_repeat, value_at}
use Rattle.flow_item.specs.Pairs.{Pair}

-- ---- how often

-- how often the list has the tag
abbrev pub times : ℕ → List Pair → ℕ
times t [] = 0
times t (p ∷ ps) = cond (eqb p.0 t) (suc (times t ps)) (times t ps)

pub times-append : (t : ℕ) (ps qs : List Pair) → times t (ps ++ qs) ≡ times t ps + times t qs
times-append t [] qs = omega arith
times-append t (p ∷ ps) qs = by_tag (eqb p.0 t) (times-append t ps qs)
  where
    by_tag : (b : Bool) → times t (ps ++ qs) ≡ times t ps + times t qs → cond b (suc (times t (ps ++ qs))) (times t (ps ++ qs)) ≡ cond b (suc (times t ps)) (times t ps) + times t qs
    by_tag true h = omega (arith, h)
    by_tag false h = h

-- ---- the first value

pub times-none : (t : ℕ) (ps : List Pair) → times t ps ≡ 0 → value_at t ps ≡ None
times-none t [] h = refl
times-none t (p ∷ ps) h = by_tag (eqb p.0 t) h (times-none t ps)
  where
    by_tag : (b : Bool) → cond b (suc (times t ps)) (times t ps) ≡ 0 → (times t ps ≡ 0 → value_at t ps ≡ None) → cond b (Some p.1) (value_at t ps) ≡ None
    by_tag true h later = absurd (omega (arith, h))
    by_tag false h later = later h

pub none-times : (t : ℕ) (ps : List Pair) → value_at t ps ≡ None → times t ps ≡ 0
none-times t [] h = refl
none-times t (p ∷ ps) h = by_tag (eqb p.0 t) h (none-times t ps)
  where
    by_tag : (b : Bool) → cond b (Some p.1) (value_at t ps) ≡ None → (value_at t ps ≡ None → times t ps ≡ 0) → cond b (suc (times t ps)) (times t ps) ≡ 0
    by_tag true h later = cc
    by_tag false h later = later h

pub some-times : (t : ℕ) (ps : List Pair) (v : Val) → value_at t ps ≡ Some v → 1 ≤ times t ps
some-times t [] v h = cc
some-times t (p ∷ ps) v h = by_tag (eqb p.0 t) h (some-times t ps v)
  where
    by_tag : (b : Bool) → cond b (Some p.1) (value_at t ps) ≡ Some v → (value_at t ps ≡ Some v → 1 ≤ times t ps) → 1 ≤ cond b (suc (times t ps)) (times t ps)
    by_tag true h later = omega arith
    by_tag false h later = later h

pub times-some : (t : ℕ) (ps : List Pair) → 1 ≤ times t ps → (v : Val) × (value_at t ps ≡ Some v)
times-some t [] h = absurd (omega (arith, h))
times-some t (p ∷ ps) h = by_tag (eqb p.0 t) h (times-some t ps)
  where
    by_tag : (b : Bool) → 1 ≤ cond b (suc (times t ps)) (times t ps) → (1 ≤ times t ps → (v : Val) × (value_at t ps ≡ Some v)) → (v : Val) × (cond b (Some p.1) (value_at t ps) ≡ Some v)
    by_tag true h later = (p.1, refl)
    by_tag false h later = later h

pub value-left : (t : ℕ) (ps qs : List Pair) (v : Val) → value_at t ps ≡ Some v → value_at t (ps ++ qs) ≡ Some v
value-left t [] qs v h = cc
value-left t (p ∷ ps) qs v h = by_tag (eqb p.0 t) h (value-left t ps qs v)
  where
    by_tag : (b : Bool) → cond b (Some p.1) (value_at t ps) ≡ Some v → (value_at t ps ≡ Some v → value_at t (ps ++ qs) ≡ Some v) → cond b (Some p.1) (value_at t (ps ++ qs)) ≡ Some v
    by_tag true h later = h
    by_tag false h later = later h

pub value-right : (t : ℕ) (ps qs : List Pair) → times t ps ≡ 0 → value_at t (ps ++ qs) ≡ value_at t qs
value-right t [] qs h = refl
value-right t (p ∷ ps) qs h = by_tag (eqb p.0 t) h (value-right t ps qs)
  where
    by_tag : (b : Bool) → cond b (suc (times t ps)) (times t ps) ≡ 0 → (times t ps ≡ 0 → value_at t (ps ++ qs) ≡ value_at t qs) → cond b (Some p.1) (value_at t (ps ++ qs)) ≡ value_at t qs
    by_tag true h later = absurd (omega (arith, h))
    by_tag false h later = later h

-- a value behind a list that hasn't its tag twice
pub value-behind : (t : ℕ) (ps qs : List Pair) (v : Val) → times t (ps ++ qs) ≤ 1 → value_at t qs ≡ Some v → value_at t (ps ++ qs) ≡ Some v
value-behind t ps qs v most h =
    let some : 1 ≤ times t qs = some-times t qs v h in
    let both : times t (ps ++ qs) ≡ times t ps + times t qs = times-append t ps qs in
    value-right t ps qs (omega (arith, most, some, both)) ∙ h

-- ---- repeats

any-times : (t : ℕ) (ps : List Pair) → list_any (λ (q : Pair). eqb q.0 t) ps ≡ false → times t ps ≡ 0
any-times t [] h = refl
any-times t (p ∷ ps) h = by_tag (eqb p.0 t) h (any-times t ps)
  where
    by_tag : (b : Bool) → (b || list_any (λ (q : Pair). eqb q.0 t) ps) ≡ false → (list_any (λ (q : Pair). eqb q.0 t) ps ≡ false → times t ps ≡ 0) → cond b (suc (times t ps)) (times t ps) ≡ 0
    by_tag true h later = cc
    by_tag false h later = later h

pub repeat-times : (ps : List Pair) → has_repeat ps ≡ false → (t : ℕ) → times t ps ≤ 1
repeat-times [] h t = omega arith
repeat-times (p ∷ ps) h t = by_tag (eqb p.0 t) refl (repeat-times ps (or_right (list_any (λ (q : Pair). eqb q.0 p.0) ps) (has_repeat ps) h) t)
  where
    by_tag : (b : Bool) → eqb p.0 t ≡ b → times t ps ≤ 1 → cond b (suc (times t ps)) (times t ps) ≤ 1
    by_tag true e most =
        let same : p.0 ≡ t = eqb-true p.0 t e in
        let none : times p.0 ps ≡ 0 = any-times p.0 ps (or_left _ _ h) in
        let gone : times t ps ≡ 0 = rw same at none in
        omega (arith, gone)
    by_tag false e most = most

times-any : (t : ℕ) (ps : List Pair) → times t ps ≡ 0 → list_any (λ (q : Pair). eqb q.0 t) ps ≡ false
times-any t [] h = refl
times-any t (p ∷ ps) h = by_tag (eqb p.0 t) h (times-any t ps)
  where
    by_tag : (b : Bool) → cond b (suc (times t ps)) (times t ps) ≡ 0 → (times t ps ≡ 0 → list_any (λ (q : Pair). eqb q.0 t) ps ≡ false) → (b || list_any (λ (q : Pair). eqb q.0 t) ps) ≡ false
    by_tag true h later = absurd (omega (arith, h))
    by_tag false h later = later h

pub times-repeat : (ps : List Pair) → ((t : ℕ) → times t ps ≤ 1) → has_repeat ps ≡ false
times-repeat [] h = refl
times-repeat (p ∷ ps) h =
    let here : cond (eqb p.0 p.0) (suc (times p.0 ps)) (times p.0 ps) ≤ 1 = h p.0 in
    let most : suc (times p.0 ps) ≤ 1 = rw (eq-eqb p.0 p.0 refl) at here in
    both (times-any p.0 ps (omega (arith, most))) (times-repeat ps (λ t. by_tag t (eqb p.0 t) (h t)))
  where
    by_tag : (t : ℕ) (b : Bool) → cond b (suc (times t ps)) (times t ps) ≤ 1 → times t ps ≤ 1
    by_tag t true k = omega (arith, k)
    by_tag t false k = k

    both : {a b : Bool} → a ≡ false → b ≡ false → (a || b) ≡ false
    both e f = rw (e, f)
