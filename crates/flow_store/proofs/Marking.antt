-- Sorted marks tell the order of the ranks.
use Rattle.std.proofs.Common.{◌≡◌, ℕ, zero, suc, ◌+◌, ◌<◌, Bool, true, false, not, ◌||◌, ◌&&◌, cond, nat_eq, nat_lt, Option, Some, None, List, [], ◌∷◌, ◌++◌, map, length, get_or, slice_get, take, drop, refl, sym, ap, ◌∙◌, subst, arith, inl, inr, ◌⊎◌}
use Rattle.std.specs.declared.cmp.Ordering.{Ordering}
use Rattle.std.specs.declared.cmp.Ordering.TheVariants.{Less, Equal, Greater}
use Rattle.std.specs.Ordering.{is_lt, ordering_then, nat_cmp, int_cmp}
use Rattle.std.specs.Option.{option_cmp, option_map}
use Rattle.std.specs.List.{All}
use Rattle.std.specs.List.Sorted.{IsPermutation, IsSorted}
use Rattle.std.proofs.lemmas.Bool.{ltb-true, ltb-false, lt-ltb}
use Rattle.std.proofs.lemmas.Bool.Decides.{eqb_tells}
use Rattle.std.proofs.lemmas.Option.{slice_get-map, get_or_from_slice_get, slice_get_within, slice_get_read, slice_get_past}
use Rattle.std.proofs.lemmas.List.Sorted.{IsPermutation-map, IsPermutation-sym, All-permutation}
use Rattle.flow_item.specs.declared.item.Item.{Item}
use Rattle.flow_machine.specs.PrintOrder.{ranks_before}
use Rattle.flow_item.specs.Values.{outranks}
use Rattle.flow_store.specs.declared.ranked.Mark.{Mark}
use Rattle.flow_store.specs.Orders.{In, Rising, Once, by_age, by_key, number_of, goes_first}
use Rattle.flow_store.specs.Marks.{mark_of, marks_from, by_rank, TellsRanks}
use Rattle.flow_store.proofs.Rising.{once-rises, once-tail, once-differs, once-permutation, permuted-in, in-sorted, sorted-in, same-members}
use Rattle.flow_store.proofs.Ranking.{goes-cmp-of, goes-strict, rank-rises}

abbrev pub mark_cmp : Mark → Mark → Ordering
mark_cmp m n = ordering_then (option_cmp int_cmp n.rank.0 m.rank.0) (ordering_then (nat_cmp m.no n.no) (nat_cmp m.place n.place))

-- ---- marks compare as their items go

tie-tested : (below same : Bool) (later : Ordering) → same ≡ false → is_lt (ordering_then (cond below Less (cond same Equal Greater)) later) ≡ below
tie-tested true same later e = refl
tie-tested false true later e = let never : ⊥ = cc in absurd never
tie-tested false false later e = refl

other-number : (m n : ℕ) → (m ≡ n → ⊥) → nat_eq m n ≡ false
other-number m n f = by_test (eqb_tells m n)
  where
    by_test : ((nat_eq m n ≡ true) × (m ≡ n)) ⊎ ((nat_eq m n ≡ false) × (m ≡ n → ⊥)) → nat_eq m n ≡ false
    by_test (inl (b, e)) = absurd (f e)
    by_test (inr (b, e)) = b

mark-goes : (i j : Item) (p q : ℕ) → (i.id.no ≡ j.id.no → ⊥) → goes_first i j ≡ is_lt (mark_cmp (mark_of p i) (mark_of q j))
mark-goes i j p q apart =
    goes-cmp-of i.val j.val (ordering_then (nat_cmp i.id.no j.id.no) (nat_cmp p q)) (nat_lt i.id.no j.id.no)
    (tie-tested (nat_lt i.id.no j.id.no) (nat_eq i.id.no j.id.no) (nat_cmp p q) (other-number i.id.no j.id.no apart))

-- of two items of other numbers one goes first
total-of : (above below older younger : Bool) → (younger ≡ false → older ≡ true) → (below || (not above && younger)) ≡ false → (above || (not below && older)) ≡ true
total-of true below older younger f h = refl
total-of false true older younger f h = let never : ⊥ = cc in absurd never
total-of false false older younger f h = f h

goes-total : (i j : Item) → (i.id.no ≡ j.id.no → ⊥) → goes_first j i ≡ false → goes_first i j ≡ true
goes-total i j apart h =
    total-of (outranks i.val j.val) (outranks j.val i.val) (nat_lt i.id.no j.id.no) (nat_lt j.id.no i.id.no)
    (λ e. let low = ltb-false j.id.no i.id.no e in lt-ltb i.id.no j.id.no (omega (arith, apart, low))) h

-- ---- the items of sorted marks rise

-- an entry is the mark of its item
abbrev Marks : (Mark → Item) → Mark → Type 0
Marks f m = m ≡ mark_of m.place (f m)

rising-cons : (x y : Item) (ys : List Item) → goes_first x y ≡ true → Rising goes_first (y ∷ ys) → Rising goes_first (x ∷ y ∷ ys)
rising-cons x y ys step r = (goes, r)
  where
    goes : (z : Item) → (z ≡ y) ⊎ In z ys → goes_first x z ≡ true
    goes z (inl e) = subst (λ (w : Item). goes_first x w ≡ true) (sym e) step
    goes z (inr k) = goes-strict.trans x y z step (r.0 z k)

sorted-tail : (m : Mark) (ms : List Mark) → IsSorted mark_cmp (m ∷ ms) → IsSorted mark_cmp ms
sorted-tail m ms h i d low below =
    let up : suc i + 1 ≡ suc (i + 1) = omega arith in
    subst (λ n. is_lt (mark_cmp (get_or (m ∷ ms) n d) (get_or ms i d)) ≡ false) up (h (suc i) d (omega arith) (omega (arith, below)))

sorted-head : (m n : Mark) (ms : List Mark) → IsSorted mark_cmp (m ∷ n ∷ ms) → is_lt (mark_cmp n m) ≡ false
sorted-head m n ms h =
    let up : 0 + 1 ≡ suc 0 = omega arith in
    subst (λ k. is_lt (mark_cmp (get_or (m ∷ n ∷ ms) k m) m) ≡ false) up (h 0 m (omega arith) (omega arith))

all-head : (P : Mark → Type 0) (m : Mark) (ms : List Mark) → All P (m ∷ ms) → P m
all-head P m ms h = h 0 m (omega arith)

all-tail : (P : Mark → Type 0) (m : Mark) (ms : List Mark) → All P (m ∷ ms) → All P ms
all-tail P m ms h k d below = h (suc k) d (omega (arith, below))

all-cons : (P : Mark → Type 0) (m : Mark) (ms : List Mark) → P m → All P ms → All P (m ∷ ms)
all-cons P m ms one h zero d below = one
all-cons P m ms one h (suc k) d below = h k d (omega (arith, below))

pair-goes : (i j : Item) (m n : Mark) → m ≡ mark_of m.place i → n ≡ mark_of n.place j → (i.id.no ≡ j.id.no → ⊥) → is_lt (mark_cmp n m) ≡ false → goes_first i j ≡ true
pair-goes i j m n em en apart h =
    goes-total i j apart (mark-goes j i n.place m.place (λ e. apart (sym e))
    ∙ ap (λ (w : Mark). is_lt (mark_cmp w (mark_of m.place i))) (sym en)
    ∙ ap (λ (w : Mark). is_lt (mark_cmp n w)) (sym em)
    ∙ h)

marked-rise : (f : Mark → Item) (ms : List Mark) → All (Marks f) ms → Once number_of (map f ms) → IsSorted mark_cmp ms → Rising goes_first (map f ms)
marked-rise f [] all once h = tt
marked-rise f (m ∷ []) all once h = (λ z k. absurd k, tt)
marked-rise f (m ∷ n ∷ ms) all once h =
    let later = all-tail (Marks f) m (n ∷ ms) all in
    let apart : ((f m).id.no ≡ (f n).id.no → ⊥) = once-differs number_of (f m) (f n) (map f (n ∷ ms)) once (inl refl) in
    rising-cons (f m) (f n) (map f ms)
    (pair-goes (f m) (f n) m n (all-head (Marks f) m (n ∷ ms) all) (all-head (Marks f) n ms later) apart (sorted-head m n ms h))
    (marked-rise f (n ∷ ms) later (once-tail number_of (f m) (map f (n ∷ ms)) once) (sorted-tail m (n ∷ ms) h))

-- ---- the marks of a row

at-drop : (zs : List Item) (p : ℕ) (x : Item) (xs : List Item) → drop p zs ≡ x ∷ xs → (slice_get zs p ≡ Some x) × (drop (suc p) zs ≡ xs)
at-drop [] zero x xs h = let never : ⊥ = cc in absurd never
at-drop [] (suc p) x xs h = let never : ⊥ = cc in absurd never
at-drop (z ∷ zs) zero x xs h = ((let same : z ≡ x = cc in ap Some same), (let same : zs ≡ xs = cc in same))
at-drop (z ∷ zs) (suc p) x xs h = at-drop zs p x xs h

-- an entry tells the place of its item, and is its mark
abbrev Tells : List Item → Item → Mark → Type 0
Tells zs d m = (slice_get zs m.place ≡ Some (get_or zs m.place d)) × Marks (λ n. get_or zs n.place d) m

marks-tell : (zs : List Item) (d : Item) (p : ℕ) (xs : List Item) → drop p zs ≡ xs → All (Tells zs d) (marks_from p xs)
marks-tell zs d p [] h = λ k e below. absurd (omega (arith, below))
marks-tell zs d p (x ∷ xs) h =
    let here = at-drop zs p x xs h in
    let same : get_or zs p d ≡ x = get_or_from_slice_get zs p x d here.0 in
    all-cons (Tells zs d) (mark_of p x) (marks_from (suc p) xs) (here.0 ∙ ap Some (sym same), ap (mark_of p) (sym same)) (marks-tell zs d (suc p) xs here.1)

marks-items : (zs : List Item) (d : Item) (p : ℕ) (xs : List Item) → drop p zs ≡ xs → map (λ (m : Mark). get_or zs m.place d) (marks_from p xs) ≡ xs
marks-items zs d p [] h = refl
marks-items zs d p (x ∷ xs) h =
    let here = at-drop zs p x xs h in
    let same : get_or zs p d ≡ x = get_or_from_slice_get zs p x d here.0 in
    ap (λ y. y ∷ map (λ (m : Mark). get_or zs m.place d) (marks_from (suc p) xs)) same ∙ ap (λ ys. x ∷ ys) (marks-items zs d (suc p) xs here.1)

places-told : (zs : List Item) (d : Item) (ms : List Mark) → All (Tells zs d) ms → map (λ (m : Mark). slice_get zs m.place) ms ≡ map Some (map (λ (m : Mark). get_or zs m.place d) ms)
places-told zs d [] h = refl
places-told zs d (m ∷ ms) h =
    ap (λ o. o ∷ map (λ (n : Mark). slice_get zs n.place) ms) (all-head (Tells zs d) m ms h).0
    ∙ ap (λ os. Some (get_or zs m.place d) ∷ os) (places-told zs d ms (all-tail (Tells zs d) m ms h))

-- items that rise by their ranks stand in print order
rank-order : (xs ys : List Item) → Once number_of xs → IsPermutation xs ys → Rising goes_first ys → ys ≡ by_rank xs
rank-order xs ys once p rises =
    same-members goes_first goes-strict ys (by_rank xs) rises (rank-rises (by_age xs) (once-rises number_of xs once))
    (λ z k. sorted-in ranks_before z (by_age xs) (sorted-in (by_key number_of) z xs (permuted-in xs ys p z k)))
    (λ z k. permuted-in ys xs (IsPermutation-sym xs ys p) z (in-sorted (by_key number_of) z xs (in-sorted ranks_before z (by_age xs) k)))

pub tells-sorted : (xs : List Item) (ms : List Mark) → Once number_of xs → IsPermutation (marks_from 0 xs) ms → IsSorted mark_cmp ms → TellsRanks ms xs
tells-sorted [] [] once p h = refl
tells-sorted [] (m ∷ ms) once p h = absurd (permuted-in [] (m ∷ ms) p m (inl refl))
tells-sorted (x ∷ xs) ms once p h =
    let zs : List Item = x ∷ xs in
    let item : Mark → Item = λ m. get_or zs m.place x in
    let told : All (Tells zs x) ms = All-permutation (Tells zs x) (marks_from 0 zs) ms p (marks-tell zs x 0 zs refl) in
    let q : IsPermutation zs (map item ms) = subst (λ ws. IsPermutation ws (map item ms)) (marks-items zs x 0 zs refl) (IsPermutation-map item (marks_from 0 zs) ms p) in
    let rises = marked-rise item ms (λ k d below. (told k d below).1) (once-permutation number_of zs (map item ms) q once) h in
    places-told zs x ms told ∙ ap (map Some) (rank-order zs (map item ms) once q rises)

-- one mark more
pub marks-more : (p q k : ℕ) (xs : List Item) (x : Item) → q ≡ p + k → slice_get xs k ≡ Some x → marks_from p (take (suc k) xs) ≡ marks_from p (take k xs) ++ mark_of q x ∷ []
marks-more p q k [] x e h = let never : ⊥ = cc in absurd never
marks-more p q zero (y ∷ ys) x e h =
    let here : y ≡ x = cc in
    let there : p ≡ q = omega (arith, e) in
    ap (λ z. mark_of p z ∷ []) here ∙ ap (λ n. mark_of n x ∷ []) there
marks-more p q (suc k) (y ∷ ys) x e h = ap (λ ms. mark_of p y ∷ ms) (marks-more (suc p) q k ys x (omega (arith, e)) h)

-- ---- places

told-map : (ms : List Mark) (xs : List Item) (k : ℕ) → TellsRanks ms xs → option_map (λ (n : Mark). slice_get xs n.place) (slice_get ms k) ≡ option_map Some (slice_get (by_rank xs) k)
told-map ms xs k h =
    sym (slice_get-map (λ (n : Mark). slice_get xs n.place) ms k)
    ∙ ap (λ os. slice_get os k) h
    ∙ slice_get-map Some (by_rank xs) k

told-of : (o r : Option Item) → Some o ≡ option_map Some r → (r ≡ o) × (z : Item) × (o ≡ Some z)
told-of o None h = let never : ⊥ = cc in absurd never
told-of o (Some z) h = let same : o ≡ Some z = cc in (sym same, z, same)

-- a mark tells the place of the item
told-at : (ms : List Mark) (xs : List Item) (k : ℕ) (m : Mark) → TellsRanks ms xs → slice_get ms k ≡ Some m → (slice_get (by_rank xs) k ≡ slice_get xs m.place) × (m.place < length xs)
told-at ms xs k m h at =
    let found = told-of (slice_get xs m.place) (slice_get (by_rank xs) k) (ap (option_map (λ (n : Mark). slice_get xs n.place)) (sym at) ∙ told-map ms xs k h) in
    (found.0, slice_get_within xs m.place found.1 found.2)

none-of : (r : Option Item) → None ≡ option_map Some r → r ≡ None
none-of None h = refl
none-of (Some z) h = let never : ⊥ = cc in absurd never

-- what a read of the marks tells
pub read-some : (ms ns : List Mark) (xs : List Item) (k : ℕ) (m : Mark) → TellsRanks ms xs → ns ≡ ms → true ≡ nat_lt k (length ns) → m ≡ get_or ns k m → (slice_get (by_rank xs) k ≡ slice_get xs m.place) × (m.place < length xs)
read-some ms ns xs k m h e below here =
    told-at ms xs k m h (subst (λ ws. slice_get ws k ≡ Some m) e (slice_get_read ns (length ns) k m refl (ltb-true k (length ns) (sym below)) here))

-- past the marks are no items
pub read-none : (ms ns : List Mark) (xs : List Item) (k : ℕ) → TellsRanks ms xs → ns ≡ ms → false ≡ nat_lt k (length ns) → slice_get (by_rank xs) k ≡ None
read-none ms ns xs k h e past =
    let none : slice_get ms k ≡ None = subst (λ ws. slice_get ws k ≡ None) e (slice_get_past ns k (ltb-false k (length ns) (sym past))) in
    none-of (slice_get (by_rank xs) k) (ap (option_map (λ (n : Mark). slice_get xs n.place)) (sym none) ∙ told-map ms xs k h)
