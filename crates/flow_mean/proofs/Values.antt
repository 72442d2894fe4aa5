-- Values of tags in rising maps, and tuples.
use Rattle.std.proofs.Common.{◌≡◌, ℕ, zero, suc, ◌+◌, ◌≤◌, ◌<◌, Bool, true, false, cond, eqb, Option, Some, None, List, [], ◌∷◌, ◌++◌, length, get_or, take, drop, refl, sym, ap, ◌∙◌, arith, eq-eqb, append_assoc}
use Rattle.std.proofs.lemmas.Bool.{eqb-true}
use Rattle.std.specs.Prelude.{slice_get, option_map}
use Rattle.flow_item.specs.declared.val.Val.{Val}
use Rattle.flow_item.specs.Pairs.{Pair}
use Rattle.flow_mean.specs.Maps.{TagMap, value_at, run_from, past_run}
use Rattle.flow_mean.specs.Passing.{Above, Rising, prefixed}

above-first : (b i : ℕ) (ps : TagMap) (p : Pair) → Above b ps → slice_get ps i ≡ Some p → b ≤ p.0
above-first b i [] p r h = cc
above-first b zero (q ∷ qs) p r h = let same : q ≡ p = cc in rw same at r.0
above-first b (suc i) (q ∷ qs) p r h = let more : suc q.0 ≤ p.0 = above-first (suc q.0) i qs p r.1 h in omega (arith, more, r.0)

-- tags rise with their places
pub above-order : (b i j : ℕ) (ps : TagMap) (p q : Pair) → Above b ps → i ≤ j → slice_get ps i ≡ Some p → slice_get ps j ≡ Some q → p.0 ≤ q.0
above-order b i j [] p q r le at there = cc
above-order b zero zero (x ∷ xs) p q r le at there = let one : p ≡ q = cc in omega (arith, ap (λ (p : Pair). p.0) one)
above-order b zero (suc j) (x ∷ xs) p q r le at there =
    let same : x ≡ p = cc in
    let more : suc x.0 ≤ q.0 = above-first (suc x.0) j xs q r.1 there in
    let tag : x.0 ≡ p.0 = ap (λ (p : Pair). p.0) same in
    omega (arith, more, tag)
above-order b (suc i) zero (x ∷ xs) p q r le at there = absurd (omega (arith, le))
above-order b (suc i) (suc j) (x ∷ xs) p q r le at there = above-order (suc x.0) i j xs p q r.1 (omega (arith, le)) at there

-- the value of a pair that is there
pub value-here : (b i : ℕ) (ps : TagMap) (p : Pair) (tag : ℕ) → Above b ps → slice_get ps i ≡ Some p → p.0 ≡ tag → value_at tag ps ≡ Some p.1
value-here b i [] p tag r h e = cc
value-here b zero (q ∷ qs) p tag r h e =
    let same : q ≡ p = cc in
    let tag_is : q.0 ≡ tag = ap (λ (p : Pair). p.0) same ∙ e in
    ap (λ c. cond c (Some q.1) (value_at tag qs)) (eq-eqb q.0 tag tag_is) ∙ ap (λ (p : Pair). Some p.1) same
value-here b (suc i) (q ∷ qs) p tag r h e =
    let more : suc q.0 ≤ p.0 = above-first (suc q.0) i qs p r.1 h in
    by (eqb q.0 tag) refl more (value-here (suc q.0) i qs p tag r.1 h e)
  where
    by : (c : Bool) → eqb q.0 tag ≡ c → suc q.0 ≤ p.0 → value_at tag qs ≡ Some p.1 → cond c (Some q.1) (value_at tag qs) ≡ Some p.1
    by true k more later = absurd (omega (arith, eqb-true q.0 tag k, e, more))
    by false k more later = later

-- and of a tag that isn't
pub value-none : (ps : TagMap) (tag : ℕ) → ((i : ℕ) (p : Pair) → slice_get ps i ≡ Some p → p.0 ≡ tag → ⊥) → value_at tag ps ≡ None
value-none [] tag h = refl
value-none (q ∷ qs) tag h = by (eqb q.0 tag) refl (value-none qs tag (λ i. h (suc i)))
  where
    by : (c : Bool) → eqb q.0 tag ≡ c → value_at tag qs ≡ None → cond c (Some q.1) (value_at tag qs) ≡ None
    by true k later = absurd (h 0 q refl (eqb-true q.0 tag k))
    by false k later = later

pub prefixed-more : (vs : List Val) (v : Val) (o : Option (List Val)) → prefixed (vs ++ v ∷ []) o ≡ prefixed vs (option_map (λ ws. v ∷ ws) o)
prefixed-more vs v None = refl
prefixed-more vs v (Some ws) = ap Some (append_assoc vs (v ∷ []) ws)
