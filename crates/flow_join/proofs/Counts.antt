-- How often a tag stands in the heap of the tags that are at each port.
use Rattle.std.proofs.Common.{◌≡◌, ℕ, ◌+◌, ◌<◌, ◌≤◌, Bool, true, false, not, ◌&&◌, cond, ltb, eqb, nat_eq, nat_cmp, is_lt, eq-eqb, true≢false, Less, Equal, Greater, List, [], ◌∷◌, refl, ap, sym, subst, ◌∙◌, arith, length, slice_index_or, IsPermutation}
use Rattle.std.proofs.lemmas.Bool.{eqb-true, ltb-false}
use Rattle.std.proofs.lemmas.List.Sums.{sum_by-cons}
use Rattle.std.proofs.lemmas.List.Sorted.{sum_by-IsPermutation}
use Rattle.std.specs.BinaryHeap.{IsUpperBound}
use Rattle.std.specs.declared.cmp.Reverse.{Reverse}
use Rattle.flow_join.specs.Keys.{least_first, count_tag}

not-less : (x y : ℕ) → is_lt (nat_cmp x y) ≡ false → y ≤ x
not-less x y h = ltb-false x y (by_tests (ltb x y) (eqb x y) h)
  where
    by_tests : (l e : Bool) → is_lt (cond l Less (cond e Equal Greater)) ≡ false → l ≡ false
    by_tests true e h = h
    by_tests false e h = refl

one-of : (b : Bool) → b ≡ true → ◌≡◌ {A = ℕ} (cond b 1 0) 1
one-of b e = ap (λ (a : Bool). cond {A = ℕ} a 1 0) e

none-of : (b : Bool) → b ≡ false → ◌≡◌ {A = ℕ} (cond b 1 0) 0
none-of b e = ap (λ (a : Bool). cond {A = ℕ} a 1 0) e

pub count-cons : (t : ℕ) (r : Reverse ℕ) (rs : List (Reverse ℕ)) → count_tag t (r ∷ rs) ≡ cond (nat_eq r.0 t) 1 0 + count_tag t rs
count-cons t r rs = sum_by-cons (λ (q : Reverse ℕ). cond (nat_eq q.0 t) 1 0) r rs

pub count-pushed : (t : ℕ) (x : Reverse ℕ) (rs qs : List (Reverse ℕ)) → IsPermutation (x ∷ rs) qs → count_tag t qs ≡ cond (nat_eq x.0 t) 1 0 + count_tag t rs
count-pushed t x rs qs h = sum_by-IsPermutation (λ (q : Reverse ℕ). cond (nat_eq q.0 t) 1 0) (x ∷ rs) qs h ∙ count-cons t x rs

pub count-popped : (t : ℕ) (x : Reverse ℕ) (rs qs : List (Reverse ℕ)) → IsPermutation rs (x ∷ qs) → count_tag t rs ≡ cond (nat_eq x.0 t) 1 0 + count_tag t qs
count-popped t x rs qs h = sym (sum_by-IsPermutation (λ (q : Reverse ℕ). cond (nat_eq q.0 t) 1 0) rs (x ∷ qs) h) ∙ count-cons t x qs

-- the tag on top stands in the heap
pub top-counted : (x : Reverse ℕ) (rs : List (Reverse ℕ)) → 0 < length rs → x ≡ slice_index_or rs 0 x → 0 < count_tag x.0 rs
top-counted x [] some at = absurd (omega arith)
top-counted x (r ∷ rs) some at =
    let same : nat_eq r.0 x.0 ≡ true = eq-eqb r.0 x.0 (sym (ap (λ (q : Reverse ℕ). q.0) at)) in
    let one = one-of (nat_eq r.0 x.0) same in
    let more = count-cons x.0 r rs in
    omega arith

pub popped-some : (x m k : ℕ) → m ≡ cond (nat_eq x x) 1 0 + k → 0 < m
popped-some x m k h = let one = one-of (nat_eq x x) (eq-eqb x x refl) in omega arith

-- an upper bound of the heap is the least tag
pub least-of : (x : Reverse ℕ) (rs : List (Reverse ℕ)) → IsUpperBound least_first x rs → (t : ℕ) → 0 < count_tag t rs → x.0 ≤ t
least-of x [] bound t some = let none : count_tag t [] ≡ 0 = refl in absurd (omega arith)
least-of x (r ∷ rs) bound t some = by_test (nat_eq r.0 t) refl (least-of x rs bound.1 t)
  where
    by_test : (b : Bool) → nat_eq r.0 t ≡ b → (0 < count_tag t rs → x.0 ≤ t) → x.0 ≤ t
    by_test true e later = subst (λ (u : ℕ). x.0 ≤ u) (eqb-true r.0 t e) (not-less r.0 x.0 bound.0)
    by_test false e later =
        let none = none-of (nat_eq r.0 t) e in
        let more = count-cons t r rs in
        later (omega arith)

zero-case : (b : Bool) → ◌≡◌ {A = ℕ} (cond b 0 0) 0
zero-case true = refl
zero-case false = refl

combine : (w b : Bool) → (w ≡ true → b ≡ true) → (k l : ℕ) → l ≡ cond w 1 0 → k ≡ cond (not w && b) 1 0 + l → k ≡ cond b 1 0
combine true true kept k l is grew = let one : l ≡ 1 = is in let g : k ≡ 0 + l = grew in let goal : k ≡ 1 = omega arith in goal
combine true false kept k l is grew = absurd (true≢false (sym (kept refl)))
combine false true kept k l is grew = let none : l ≡ 0 = is in let g : k ≡ 1 + l = grew in let goal : k ≡ 1 = omega arith in goal
combine false false kept k l is grew = let none : l ≡ 0 = is in let g : k ≡ 0 + l = grew in let goal : k ≡ 0 = omega arith in goal

-- the counts where an item of one tag came, and its tag was added if it is at each port since then
pub added : (tag : ℕ) (was now : ℕ → Bool) (m n : ℕ → ℕ) → ((t : ℕ) → m t ≡ cond (was t) 1 0)
    → ((t : ℕ) → n t ≡ cond (not (was tag) && now tag) (cond (nat_eq tag t) 1 0) 0 + m t)
    → (was tag ≡ true → now tag ≡ true) → ((t : ℕ) → nat_eq tag t ≡ false → now t ≡ was t) → (t : ℕ) → n t ≡ cond (now t) 1 0
added tag was now m n counted grew kept others t = by_test (nat_eq tag t) refl
  where
    own : n tag ≡ cond (now tag) 1 0
    own = combine (was tag) (now tag) kept (n tag) (m tag) (counted tag)
        (grew tag ∙ ap (λ (b : Bool). cond (not (was tag) && now tag) (cond b 1 0) 0 + m tag) (eq-eqb tag tag refl))

    by_test : (b : Bool) → nat_eq tag t ≡ b → n t ≡ cond (now t) 1 0
    by_test true e = subst (λ (u : ℕ). n u ≡ cond (now u) 1 0) (eqb-true tag t e) own
    by_test false e =
        let grew' : n t ≡ cond (not (was tag) && now tag) 0 0 + m t = grew t ∙ ap (λ (b : Bool). cond (not (was tag) && now tag) (cond b 1 0) 0 + m t) e in
        let none = zero-case (not (was tag) && now tag) in
        let same : n t ≡ m t = omega arith in
        same ∙ counted t ∙ ap (λ (b : Bool). cond b 1 0) (sym (others t e))

-- the counts where the least tag was taken out, and was added again if it is still at each port
pub moved : (tag : ℕ) (was now : ℕ → Bool) (m k n : ℕ → ℕ) → ((t : ℕ) → m t ≡ cond (was t) 1 0)
    → ((t : ℕ) → m t ≡ cond (nat_eq tag t) 1 0 + k t) → ((t : ℕ) → n t ≡ cond (now tag) (cond (nat_eq tag t) 1 0) 0 + k t)
    → was tag ≡ true → ((t : ℕ) → nat_eq tag t ≡ false → now t ≡ was t) → (t : ℕ) → n t ≡ cond (now t) 1 0
moved tag was now m k n counted fell grew at others t = by_test (nat_eq tag t) refl
  where
    own : n tag ≡ cond (now tag) 1 0
    own =
        let one : m tag ≡ 1 = counted tag ∙ ap (λ (b : Bool). cond b 1 0) at in
        let less : m tag ≡ 1 + k tag = fell tag ∙ ap (λ (b : Bool). cond b 1 0 + k tag) (eq-eqb tag tag refl) in
        let more : n tag ≡ cond (now tag) 1 0 + k tag = grew tag ∙ ap (λ (b : Bool). cond (now tag) (cond b 1 0) 0 + k tag) (eq-eqb tag tag refl) in
        omega arith

    by_test : (b : Bool) → nat_eq tag t ≡ b → n t ≡ cond (now t) 1 0
    by_test true e = subst (λ (u : ℕ). n u ≡ cond (now u) 1 0) (eqb-true tag t e) own
    by_test false e =
        let less : m t ≡ 0 + k t = fell t ∙ ap (λ (b : Bool). cond b 1 0 + k t) e in
        let more : n t ≡ cond (now tag) 0 0 + k t = grew t ∙ ap (λ (b : Bool). cond (now tag) (cond b 1 0) 0 + k t) e in
        let none = zero-case (now tag) in
        let same : n t ≡ m t = omega arith in
        same ∙ counted t ∙ ap (λ (b : Bool). cond b 1 0) (sym (others t e))
