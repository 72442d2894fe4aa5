-- The items of a heap, one more or one less.
use Rattle.std.proofs.Common.{◌≡◌, ℕ, suc, ◌<◌, Bool, true, false, ◌||◌, ◌&&◌, cond, nat_eq, nat_lt, slice_index_or, Option, Some, None, List, [], ◌∷◌, ◌++◌, map, length, refl, sym, ap, ◌∙◌, subst, arith, inl, inr}
use Rattle.std.proofs.lemmas.Bool.{eqb-true}
use Rattle.std.proofs.lemmas.List.{append-nil}
use Rattle.std.specs.List.{list_any, list_all}
use Rattle.std.specs.List.Sorted.{IsPermutation}
use Rattle.std.specs.Option.{option_map}
use Rattle.std.specs.BinaryHeap.{IsUpperBound}
use Rattle.std.proofs.lemmas.List.Sorted.{IsPermutation-append_left, IsPermutation-sym, IsPermutation-trans, IsPermutation-to_front}
use Rattle.flow_item.specs.declared.item.Item.{Item}
use Rattle.flow_item.specs.Lists.{drop_first, first}
use Rattle.flow_shape.specs.declared.Kind.TheVariants as K
use Rattle.flow_machine.specs.State.{store_part, option_list}
use Rattle.flow_machine.specs.Offers.{first_greatest}
use Rattle.flow_machine.specs.PrintOrder.{insert_by, sorted_by}
use Rattle.flow_machine.specs.Enabled.{is_numbered, is_reserved}
use Rattle.flow_store.specs.declared.ranked.Ranked.{Ranked}
use Rattle.flow_store.specs.declared.ranked.Locked.{Locked}
use Rattle.flow_store.specs.Stores.{goes, is_new}
use Rattle.flow_store.specs.Orders.{In, Once, by_age, by_key, number_of}
use Rattle.flow_store.specs.RankOrder.{ranked_cmp}
use Rattle.flow_store.specs.Ranks.{ranked_item, locked_item, claim_of, all_items}
use Rattle.flow_store.proofs.Rising.{sorted-in, once-permutation, sorted-same, sorted-more, sorted-less, permuted-in}
use Rattle.flow_store.proofs.Ranking.{top-is}

-- a test of all members holds of each
pub all-tested : {X : Type 0} (p : X → Bool) (xs : List X) (z : X) → list_all p xs ≡ true → In z xs → p z ≡ true
all-tested p [] z h k = absurd k
all-tested p (x ∷ xs) z h (inl e) = subst (λ w. p w ≡ true) (sym e) (by_first (p x) h)
  where
    by_first : (b : Bool) → (b && list_all p xs) ≡ true → b ≡ true
    by_first true h = refl
    by_first false h = let never : ⊥ = cc in absurd never
all-tested p (x ∷ xs) z h (inr k) = all-tested p xs z (by_first (p x) h) k
  where
    by_first : (b : Bool) → (b && list_all p xs) ≡ true → list_all p xs ≡ true
    by_first true h = h
    by_first false h = let never : ⊥ = cc in absurd never

pub all-sorted : (p : Item → Bool) (xs : List Item) (z : Item) → list_all p (by_age xs) ≡ true → In z xs → p z ≡ true
all-sorted p xs z h k = all-tested p (by_age xs) z h (sorted-in (by_key number_of) z xs k)

-- an item that came, and what it leaves of the order
pub record Came (xs ys : List Item) (x : Item) : Type 0 where
  pub once : Once number_of ys
  pub items : by_age ys ≡ by_age xs ++ x ∷ []

pub rank-came : (old new : List Item) (locked : Option Locked) (x : Item) → Once number_of (old ++ option_list (option_map locked_item locked))
    → is_new x.id.no (by_age (old ++ option_list (option_map locked_item locked))) ≡ true → IsPermutation (x ∷ old) new
    → Came (old ++ option_list (option_map locked_item locked)) (new ++ option_list (option_map locked_item locked)) x
rank-came old new locked x once above p =
    let held = option_list (option_map locked_item locked) in
    let more = sorted-more number_of x (old ++ held) (new ++ held) (IsPermutation-append_left held (x ∷ old) new p) once
    (λ z k. all-sorted (λ (i : Item). nat_lt i.id.no x.id.no) (old ++ held) z above k) in
    record { once = more.0; items = more.1 }

-- an item that went
pub record Went (xs ys : List Item) (number : ℕ) : Type 0 where
  pub once : Once number_of ys
  pub items : by_age ys ≡ drop_first (is_numbered number) (by_age xs)

pub went-of : (xs ys : List Item) (x : Item) (number : ℕ) → Once number_of xs → x.id.no ≡ number → IsPermutation xs (x ∷ ys) → Went xs ys number
went-of xs ys x number once e p =
    let less = sorted-less number_of x xs ys p once in
    record { once = less.0; items = less.1 ∙ ap (λ n. drop_first (is_numbered n) (by_age xs)) e }

numbered-first : (o : Option Item) (x : Item) (number : ℕ) → o ≡ Some x → list_any (is_numbered number) (option_list o) ≡ true → x.id.no ≡ number
numbered-first None x number e h = let never : ⊥ = cc in absurd never
numbered-first (Some y) x number e h =
    let same : y ≡ x = cc in
    subst (λ (w : Item). w.id.no ≡ number) same (eqb-true y.id.no number (by_first (is_numbered number y) h))
  where
    by_first : (b : Bool) → (b || false) ≡ true → b ≡ true
    by_first true h = refl
    by_first false h = h

no-members : (number : ℕ) → list_any (is_numbered number) [] ≡ true → ⊥
no-members number h = cc

-- where an item may go, nothing is locked
pub free-to_go : (items : List Item) (locked : Option Locked) (number : ℕ) → goes K.Priority (store_part record { items = items; lock = option_map claim_of locked; next = 0 }) number ≡ true → locked ≡ None
free-to_go items None number h = refl
free-to_go items (Some l) number h = let never : ⊥ = cc in absurd never

pub some-goes : (items : List Item) (locked : Option Locked) (number : ℕ) → goes K.Priority (store_part record { items = items; lock = option_map claim_of locked; next = 0 }) number ≡ true → items ≡ [] → ⊥
some-goes items (Some l) number h e = let never : ⊥ = cc in never
some-goes items None number h e = no-members number (subst (λ xs. list_any (is_numbered number) (option_list (first_greatest xs)) ≡ true) e h)

-- the top of the heap is the item that may go
pub top-goes : (heap : List Ranked) (locked : Option Locked) (x : Item) (rest : List Item) (number : ℕ) → Once number_of (all_items heap locked)
    → goes K.Priority (store_part record { items = by_age (all_items heap locked); lock = option_map claim_of locked; next = 0 }) number ≡ true
    → IsPermutation (map ranked_item heap) (x ∷ rest) → IsUpperBound ranked_cmp record { item = x } heap → x.id.no ≡ number
top-goes heap (Some l) x rest number once h p top = let never : ⊥ = cc in absurd never
top-goes heap None x rest number once h p top =
    let plain : all_items heap None ≡ map ranked_item heap = append-nil (map ranked_item heap) in
    let first : first_greatest (by_age (all_items heap None)) ≡ Some x =
    ap (λ xs. first_greatest (by_age xs)) plain
    ∙ top-is heap x (subst (Once number_of) plain once) (permuted-in (map ranked_item heap) (x ∷ rest) p x (inl refl)) top in
    numbered-first (first_greatest (by_age (all_items heap None))) x number first h

-- it leaves the heap
pub rank-given : (heap new : List Ranked) (locked : Option Locked) (x : Item) (number : ℕ) → Once number_of (all_items heap locked)
    → goes K.Priority (store_part record { items = by_age (all_items heap locked); lock = option_map claim_of locked; next = 0 }) number ≡ true
    → IsPermutation (map ranked_item heap) (x ∷ map ranked_item new) → IsUpperBound ranked_cmp record { item = x } heap
    → Went (all_items heap locked) (all_items new locked) number
rank-given heap new locked x number once h p top =
    went-of (all_items heap locked) (all_items new locked) x number once (top-goes heap locked x (map ranked_item new) number once h p top)
    (IsPermutation-append_left (option_list (option_map locked_item locked)) (map ranked_item heap) (x ∷ map ranked_item new) p)

-- items in another order
pub record Stayed (xs ys : List Item) : Type 0 where
  pub once : Once number_of ys
  pub items : by_age ys ≡ by_age xs

stayed-of : (xs ys : List Item) → Once number_of xs → IsPermutation xs ys → Stayed xs ys
stayed-of xs ys once p = record { once = once-permutation number_of xs ys p once; items = sym (sorted-same number_of xs ys p once) }

-- it leaves the heap and is locked
pub rank-held : (heap new : List Ranked) (l : Locked) → Once number_of (all_items heap None) → IsPermutation (map ranked_item heap) (l.item ∷ map ranked_item new)
    → Stayed (all_items heap None) (all_items new (Some l))
rank-held heap new l once p =
    let plain : map ranked_item heap ≡ all_items heap None = sym (append-nil (map ranked_item heap)) in
    let q : IsPermutation (map ranked_item heap) (all_items new (Some l)) =
    IsPermutation-trans (map ranked_item heap) (l.item ∷ map ranked_item new) (all_items new (Some l)) p
    (IsPermutation-sym (all_items new (Some l)) (l.item ∷ map ranked_item new) (IsPermutation-to_front (map ranked_item new) l.item)) in
    stayed-of (all_items heap None) (all_items new (Some l)) once (subst (λ xs. IsPermutation xs (all_items new (Some l))) plain q)

-- the locked item goes back into the heap
pub rank-freed : (heap new : List Ranked) (l : Locked) → Once number_of (all_items heap (Some l)) → IsPermutation (l.item ∷ map ranked_item heap) (map ranked_item new)
    → Stayed (all_items heap (Some l)) (all_items new None)
rank-freed heap new l once p =
    let plain : map ranked_item new ≡ all_items new None = sym (append-nil (map ranked_item new)) in
    let q : IsPermutation (all_items heap (Some l)) (map ranked_item new) =
    IsPermutation-trans (all_items heap (Some l)) (l.item ∷ map ranked_item heap) (map ranked_item new) (IsPermutation-to_front (map ranked_item heap) l.item) p in
    stayed-of (all_items heap (Some l)) (all_items new None) once (subst (λ xs. IsPermutation (all_items heap (Some l)) xs) plain q)

-- the locked item goes
pub rank-taken : (heap : List Ranked) (l : Locked) (number : ℕ) → Once number_of (all_items heap (Some l)) → l.item.id.no ≡ number → Went (all_items heap (Some l)) (all_items heap None) number
rank-taken heap l number once e =
    let plain : map ranked_item heap ≡ all_items heap None = sym (append-nil (map ranked_item heap)) in
    went-of (all_items heap (Some l)) (all_items heap None) l.item number once e
    (subst (λ xs. IsPermutation (all_items heap (Some l)) (l.item ∷ xs)) plain (IsPermutation-to_front (map ranked_item heap) l.item))

-- what is reserved is locked under its number
pub reserved-locked : (items : List Item) (l : Locked) (x number : ℕ) → is_reserved (store_part record { items = items; lock = option_map claim_of (Some l); next = 0 }) x number ≡ true → l.item.id.no ≡ number
reserved-locked items l x number h = eqb-true l.item.id.no number (by_edge (nat_eq l.edge x) h)
  where
    by_edge : (b : Bool) → (b && nat_eq l.item.id.no number) ≡ true → nat_eq l.item.id.no number ≡ true
    by_edge true h = h
    by_edge false h = let never : ⊥ = cc in absurd never

pub reserved-some : (items : List Item) (x number : ℕ) → is_reserved (store_part record { items = items; lock = None; next = 0 }) x number ≡ true → ⊥
reserved-some items x number h = cc

length-insert-by : {X : Type 0} (b : Bool) (x y : X) (ys rest : List X) → length rest ≡ suc (length ys) → length (cond b (y ∷ rest) (x ∷ y ∷ ys)) ≡ suc (length (y ∷ ys))
length-insert-by true x y ys rest h = ap suc h
length-insert-by false x y ys rest h = refl

length-insert : {X : Type 0} (test : X → X → Bool) (x : X) (ys : List X) → length (insert_by test x ys) ≡ suc (length ys)
length-insert test x [] = refl
length-insert test x (y ∷ ys) = length-insert-by (test y x) x y ys (insert_by test x ys) (length-insert test x ys)

length-sorted : {X : Type 0} (test : X → X → Bool) (xs : List X) → length (sorted_by test xs) ≡ length xs
length-sorted test [] = refl
length-sorted test (x ∷ xs) = length-insert test x (sorted_by test xs) ∙ ap suc (length-sorted test xs)

pub length-by_age : (xs : List Item) → length (by_age xs) ≡ length xs
length-by_age xs = length-sorted (by_key number_of) xs

-- the top of the heap is what may go
pub front-first : (heap : List Ranked) (x : Ranked) → Once number_of (all_items heap None) → In x.item (map ranked_item heap) → IsUpperBound ranked_cmp x heap
    → Some x.item ≡ first (option_list (first_greatest (by_age (all_items heap None))))
front-first heap x once k top =
    let plain : all_items heap None ≡ map ranked_item heap = append-nil (map ranked_item heap) in
    let found : first_greatest (by_age (all_items heap None)) ≡ Some x.item =
    ap (λ xs. first_greatest (by_age xs)) plain ∙ top-is heap x.item (subst (Once number_of) plain once) k top in
    ap (λ (o : Option Item). first (option_list o)) (sym found)

-- the first entry of the heap is one of its items
pub head-in : (heap : List Ranked) (x : Ranked) → x ≡ slice_index_or heap 0 x → 0 < length heap → In x.item (map ranked_item heap)
head-in [] x h some = absurd (omega (arith, some))
head-in (y ∷ ys) x h some = inl (ap ranked_item h)
