-- Wrapping sums, one number after another.
use Rattle.std.proofs.Common.{◌≡◌, ℕ, suc, ◌+◌, ◌<◌, ◌≤◌, length, get_or, subst, ◌%◌, ◌^◌, ℤ, pos, Some, List, [], ◌∷◌, map, drop, slice_get, refl, sym, ap, ◌∙◌, add-one, drop-cons, arith}
use native.Mathlib.Nat.{add-mod, mod-eq_of_lt, mod-lt}
use Rattle.std.proofs.lemmas.Int.{of_z-to_z}
use Rattle.std.proofs.lemmas.Option.{slice_get_within, get_or_from_slice_get}
use Rattle.std.proofs.lemmas.List.{drop_all}
use Rattle.std.specs.Int.{w64, int_wrapping_add, cast_signed, cast_unsigned}
use mathlib.Core.Former as former
use Rattle.flow_item.specs.declared.val.Val.{Val, Row_of-Val, items-the_row-Val, items_hidden-the_row-Val-0}
use Rattle.flow_item.specs.declared.val.Val.TheBlock.{end_of-Val, more_of-Val, hidden-the_row-Val-0}
use Rattle.flow_item.specs.declared.val.Val.TheVariants as V
use Rattle.flow_item.specs.declared.item.Item.{Item}
use Rattle.flow_item.specs.Pairs.{Pair, pair_of}
use Rattle.flow_gen.specs.Generated.{whole_sum, row_sum, pairs_sum}
use Rattle.flow_gen.specs.Sums.{total, values_sum, items_sum}

-- ---- a list of values

row_sum-items : {n : former.Count} (xs : Row_of-Val n) → row_sum xs ≡ values_sum (items-the_row-Val n xs)
row_sum-items end_of-Val = refl
row_sum-items (more_of-Val x xs) = ap (λ s. int_wrapping_add w64 (whole_sum x) s) (row_sum-items xs)

pub sum_of_list : (xs : List Val) → whole_sum (V.List xs) ≡ values_sum xs
sum_of_list xs = row_sum-items (hidden-the_row-Val-0 xs) ∙ ap values_sum (items_hidden-the_row-Val-0 xs)

-- ---- wrapping addition

positive : 0 < 2 ^ 64
positive = omega arith

below : (n : ℕ) → n % 2 ^ 64 < 2 ^ 64
below n = mod-lt n positive

bits_of_sum : (n : ℕ) → cast_unsigned w64 (cast_signed w64 (n % 2 ^ 64)) ≡ n % 2 ^ 64
bits_of_sum n = of_z-to_z w64 (n % 2 ^ 64) (below n)

once : (a b : ℕ) → (a % 2 ^ 64 + b) % 2 ^ 64 ≡ (a + b) % 2 ^ 64
once a b = add-mod (a % 2 ^ 64) b (2 ^ 64) ∙ ap (λ x. (x + b % 2 ^ 64) % 2 ^ 64) (mod-eq_of_lt (below a)) ∙ sym (add-mod a b (2 ^ 64))

grouped : (a b c : ℕ) → ((a + b) % 2 ^ 64 + c) % 2 ^ 64 ≡ (a + (b + c) % 2 ^ 64) % 2 ^ 64
grouped a b c =
    let left : ((a + b) % 2 ^ 64 + c) % 2 ^ 64 ≡ (a + b + c) % 2 ^ 64 = once (a + b) c in
    let same : (a + b + c) % 2 ^ 64 ≡ (b + c + a) % 2 ^ 64 = ap (λ x. x % 2 ^ 64) (omega arith) in
    let turned : (a + (b + c) % 2 ^ 64) % 2 ^ 64 ≡ ((b + c) % 2 ^ 64 + a) % 2 ^ 64 = ap (λ x. x % 2 ^ 64) (omega arith) in
    left ∙ same ∙ sym (once (b + c) a) ∙ sym turned

abbrev pub plus : ℤ → ℤ → ℤ
plus x y = int_wrapping_add w64 x y

plus_grouped : (x y z : ℤ) → plus (plus x y) z ≡ plus x (plus y z)
plus_grouped x y z =
    let a : ℕ = cast_unsigned w64 x in
    let b : ℕ = cast_unsigned w64 y in
    let c : ℕ = cast_unsigned w64 z in
    ap (λ n. cast_signed w64 ((n + c) % 2 ^ 64)) (bits_of_sum (a + b)) ∙ ap (cast_signed w64) (grouped a b c) ∙ ap (λ n. cast_signed w64 ((a + n) % 2 ^ 64)) (sym (bits_of_sum (b + c)))

-- ---- the steps of a loop

zero_plus : (n : ℕ) → plus (pos 0) (cast_signed w64 (n % 2 ^ 64)) ≡ cast_signed w64 (n % 2 ^ 64)
zero_plus n =
    let none : 0 + cast_unsigned w64 (cast_signed w64 (n % 2 ^ 64)) ≡ cast_unsigned w64 (cast_signed w64 (n % 2 ^ 64)) = omega arith in
    ap (λ b. cast_signed w64 (b % 2 ^ 64)) (none ∙ bits_of_sum n) ∙ ap (cast_signed w64) (mod-eq_of_lt (below n))

pub sum_begins : {X : Type 0} (f : X → ℤ) (xs : List X) → plus (pos 0) (total f xs) ≡ total f xs
sum_begins f [] = refl
sum_begins f (x ∷ xs) = zero_plus (cast_unsigned w64 (f x) + cast_unsigned w64 (total f xs))

dropped : {X : Type 0} (xs : List X) (i : ℕ) (x : X) → slice_get xs i ≡ Some x → drop i xs ≡ x ∷ drop (i + 1) xs
dropped xs i x at = let lt = slice_get_within xs i x at in rw (add-one) (drop-cons xs i x lt ∙ ap (λ y. y ∷ drop (suc i) xs) (get_or_from_slice_get xs i x x at))

-- what was added is as its bits are read
bits_of_plus : (x y z : ℤ) → z ≡ plus x y → cast_signed w64 (cast_unsigned w64 z) ≡ z
bits_of_plus x y z e = ap (λ (s : ℤ). cast_signed w64 (cast_unsigned w64 s)) e ∙ (ap (cast_signed w64) (bits_of_sum (cast_unsigned w64 x + cast_unsigned w64 y)) ∙ sym e)

pub bits_of_total : {X : Type 0} (f : X → ℤ) (xs : List X) → cast_signed w64 (cast_unsigned w64 (total f xs)) ≡ total f xs
bits_of_total f [] = refl
bits_of_total f (x ∷ xs) = bits_of_plus (f x) (total f xs) (plus (f x) (total f xs)) refl

-- one more member
pub sum_more : {X : Type 0} (f : X → ℤ) (xs : List X) (i : ℕ) (x : X) (sum w new goal' : ℤ) → drop i xs ≡ x ∷ drop (i + 1) xs → new ≡ plus sum w → w ≡ f x → plus sum (total f (drop i xs)) ≡ goal' →
    plus (cast_signed w64 (cast_unsigned w64 new)) (total f (drop (i + 1) xs)) ≡ goal'
sum_more f xs i x sum w new goal' at p q h =
    ap (λ (z : ℤ). plus z (total f (drop (i + 1) xs))) (bits_of_plus sum w new p ∙ (p ∙ ap (λ (z : ℤ). plus sum z) q))
    ∙ (plus_grouped sum (f x) (total f (drop (i + 1) xs)) ∙ (ap (λ ys. plus sum (total f ys)) (sym at) ∙ h))

pub next_found : {X : Type 0} (xs : List X) (i : ℕ) (x : X) → slice_get xs i ≡ Some x → drop i xs ≡ x ∷ drop (i + 1) xs
next_found xs i x at = dropped xs i x at

pub next_read : {X : Type 0} (xs ys : List X) (i : ℕ) (x : X) → ys ≡ xs → i < length ys → x ≡ get_or ys i x → drop i xs ≡ x ∷ drop (i + 1) xs
next_read xs ys i x same lt is =
    let there : drop i ys ≡ x ∷ drop (i + 1) ys = rw (add-one) (drop-cons ys i x lt ∙ ap (λ y. y ∷ drop (suc i) ys) (sym is)) in
    subst (λ zs. drop i zs ≡ x ∷ drop (i + 1) zs) same there

pub none_left : {X : Type 0} (xs : List X) (n i : ℕ) → n ≡ length xs → n ≤ i → drop i xs ≡ []
none_left xs n i e h = drop_all i xs (omega (arith, e, h))

-- a sum stays the same with nothing more
plus_zero : (n : ℕ) → plus (cast_signed w64 (n % 2 ^ 64)) (pos 0) ≡ cast_signed w64 (n % 2 ^ 64)
plus_zero n =
    let none : cast_unsigned w64 (cast_signed w64 (n % 2 ^ 64)) + 0 ≡ cast_unsigned w64 (cast_signed w64 (n % 2 ^ 64)) = omega arith in
    ap (λ b. cast_signed w64 (b % 2 ^ 64)) (none ∙ bits_of_sum n) ∙ ap (cast_signed w64) (mod-eq_of_lt (below n))

pub stays_zero : plus (pos 0) (pos 0) ≡ pos 0
stays_zero = zero_plus 0

pub stays_sum : (x y z : ℤ) → z ≡ plus x y → plus (cast_signed w64 (cast_unsigned w64 z)) (pos 0) ≡ cast_signed w64 (cast_unsigned w64 z)
stays_sum x y z e = plus_bits (bits_of_plus x y z e)
  where
    plus_bits : cast_signed w64 (cast_unsigned w64 z) ≡ z → plus (cast_signed w64 (cast_unsigned w64 z)) (pos 0) ≡ cast_signed w64 (cast_unsigned w64 z)
    plus_bits b = ap (λ (s : ℤ). plus s (pos 0)) (b ∙ e) ∙ (plus_zero (cast_unsigned w64 x + cast_unsigned w64 y) ∙ (sym e ∙ sym b))

pub sum_done : {X : Type 0} (f : X → ℤ) (ys : List X) (sum goal' : ℤ) → ys ≡ [] → plus sum (pos 0) ≡ sum → plus sum (total f ys) ≡ goal' → sum ≡ goal'
sum_done f ys sum goal' none stays h = sym stays ∙ (ap (λ zs. plus sum (total f zs)) (sym none) ∙ h)

-- ---- items

pub sum_of_items : (items : List Item) → pairs_sum (map pair_of items) ≡ items_sum items
sum_of_items [] = refl
sum_of_items (i ∷ items) = ap (λ s. plus (whole_sum i.val) s) (sum_of_items items)

pub sum_of_pairs : (ps : List Pair) → pairs_sum ps ≡ total (λ (p : Pair). whole_sum p.1) ps
sum_of_pairs [] = refl
sum_of_pairs (p ∷ ps) = ap (λ s. plus (whole_sum p.1) s) (sum_of_pairs ps)
