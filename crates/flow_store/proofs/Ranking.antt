-- Items by rank.
use Rattle.std.proofs.Common.{◌≡◌, ℕ, Bool, true, false, not, ◌||◌, ◌&&◌, cond, nat_lt, Option, Some, None, List, [], ◌∷◌, map, slice_get, refl, sym, ap, ◌∙◌, subst, inl, inr, ◌⊎◌, rules}
use Rattle.std.specs.Option.{MatchOption, option_cmp}
use Rattle.std.specs.List.{All}
use Rattle.std.specs.Cmp.{IsTotalOrder}
use Rattle.std.specs.Cmp.Rules.{comparing}
use Rattle.std.specs.BinaryHeap.{IsUpperBound}
use Rattle.std.specs.declared.cmp.Ordering.{Ordering}
use Rattle.std.specs.declared.cmp.Ordering.TheVariants.{Less, Equal, Greater}
use Rattle.std.specs.Ordering.{is_lt, ordering_reverse, ordering_then, nat_cmp, int_cmp}
use Rattle.std.specs.Prelude.{int_lt, ◌==◌}
use Rattle.flow_item.specs.declared.val.Val.{Val}
use Rattle.flow_item.specs.declared.val.Val.TheVariants as V
use Rattle.flow_item.specs.declared.item.Item.{Item}
use Rattle.flow_item.specs.Values.{outranks}
use Rattle.flow_machine.specs.Offers.{first_of_greater, first_greatest}
use Rattle.flow_machine.specs.PrintOrder.{sorted_by, ranks_before}
use Rattle.flow_store.specs.declared.ranked.Ranked.{Ranked}
use Rattle.flow_store.specs.Orders.{In, Rising, Once, by_age, by_key, number_of, goes_first, rank_of, ahead, IsNth, precedes}
use Rattle.flow_store.specs.declared.orders.Order.TheVariants as O
use Rattle.flow_store.specs.RankOrder.{ranked_cmp}
use Rattle.flow_store.specs.Ranks.{ranked_item}
use Rattle.flow_store.proofs.Rising.{IsStrict, key-strict, once-rises, in-sorted, sorted-in, rising-insert}
use Rattle.flow_store.proofs.Counting.{nth-is, sum-sorted}

abbrev ranked : Item → Ranked
ranked i = record { item = i }

-- ---- the order

ranked-total : IsTotalOrder ranked_cmp
ranked-total = search (comparing, rules)

nat-tested : (m n : ℕ) (b : Bool) → is_lt (cond (nat_lt m n) Less (cond b Equal Greater)) ≡ nat_lt m n
nat-tested m n b = by_tests (nat_lt m n) b
  where
    by_tests : (a b : Bool) → is_lt (cond a Less (cond b Equal Greater)) ≡ a
    by_tests true b = refl
    by_tests false true = refl
    by_tests false false = refl

by_values : (above below : Bool) (later : Ordering) (older : Bool) → is_lt later ≡ older → (above || (not below && older)) ≡ is_lt (ordering_then (cond above Less (cond below Greater Equal)) later)
by_values true below later older h = refl
by_values false true later older h = refl
by_values false false later older h = sym h

pub goes-cmp-of : (a b : Val) (later : Ordering) (older : Bool) → is_lt later ≡ older → (outranks a b || (not (outranks b a) && older)) ≡ is_lt (ordering_then (option_cmp int_cmp (rank_of b) (rank_of a)) later)
goes-cmp-of (V.Int a) (V.Int b) later older h = by_values (int_lt b a) (int_lt a b) later older h
goes-cmp-of (V.Int a) (V.Text b) later older h = refl
goes-cmp-of (V.Int a) (V.List' n b) later older h = refl
goes-cmp-of (V.Text a) (V.Int b) later older h = refl
goes-cmp-of (V.Text a) (V.Text b) later older h = sym h
goes-cmp-of (V.Text a) (V.List' n b) later older h = sym h
goes-cmp-of (V.List' n a) (V.Int b) later older h = refl
goes-cmp-of (V.List' n a) (V.Text b) later older h = sym h
goes-cmp-of (V.List' n a) (V.List' m b) later older h = sym h

-- an item goes first where its entry is the greater
pub goes-cmp : (i j : Item) → goes_first i j ≡ is_lt (ranked_cmp (ranked j) (ranked i))
goes-cmp i j = goes-cmp-of i.val j.val (nat_cmp i.id.no j.id.no) (nat_lt i.id.no j.id.no) (nat-tested i.id.no j.id.no (i.id.no == j.id.no))

less : (r : Ordering) → is_lt r ≡ true → r ≡ Less
less Less h = refl
less Equal h = let never : ⊥ = cc in absurd never
less Greater h = let never : ⊥ = cc in absurd never

pub goes-strict : IsStrict goes_first
goes-strict = record {
  asym = λ i j h k.
      let p = less (ranked_cmp (ranked j) (ranked i)) (sym (goes-cmp i j) ∙ h) in
      let q = less (ranked_cmp (ranked i) (ranked j)) (sym (goes-cmp j i) ∙ k) in
      let r : Greater ≡ Less = ap ordering_reverse (sym p) ∙ sym (ranked-total.antisymm (ranked i) (ranked j)) ∙ q in
      let never : ⊥ = cc in never;
  trans = λ i j k h m.
      let p = less (ranked_cmp (ranked j) (ranked i)) (sym (goes-cmp i j) ∙ h) in
      let q = less (ranked_cmp (ranked k) (ranked j)) (sym (goes-cmp j k) ∙ m) in
      goes-cmp i k ∙ ap is_lt (ranked-total.trans (ranked k) (ranked j) (ranked i) q p);
}

-- ---- print order

or-true : (b : Bool) → (b || true) ≡ true
or-true true = refl
or-true false = refl

pub rank-rises : (zs : List Item) → Rising (by_key number_of) zs → Rising goes_first (sorted_by ranks_before zs)
rank-rises [] r = tt
rank-rises (z ∷ zs) r =
    rising-insert goes_first goes-strict ranks_before z (sorted_by ranks_before zs)
    (λ y k h. rw h refl)
    (λ y k h. rw (h, r.0 y (in-sorted ranks_before y zs k)) (or-true (outranks z.val y.val)))
    (rank-rises zs r.1)

-- ---- the first to go

or-false : (b c : Bool) → (b || c) ≡ false → (b ≡ false) × (c ≡ false)
or-false true c h = let never : ⊥ = cc in absurd never
or-false false c h = (refl, h)

not-and : (b c : Bool) → (not b && c) ≡ false → c ≡ true → b ≡ true
not-and true c h k = refl
not-and false c h k = let never : ⊥ = cc in absurd never

greatest-in-of : (i z : Item) (is : List Item) (r : Option Item) → ((w : Item) → r ≡ Some w → In w is) → first_of_greater i r ≡ Some z → (z ≡ i) ⊎ In z is
greatest-in-of i z is None f h = inl (let same : z ≡ i = cc in same)
greatest-in-of i z is (Some j) f h = by_test (outranks j.val i.val) h
  where
    by_test : (b : Bool) → cond b (Some j) (Some i) ≡ Some z → (z ≡ i) ⊎ In z is
    by_test true h = inr (f z h)
    by_test false h = inl (let same : z ≡ i = cc in same)

greatest-in : (zs : List Item) (z : Item) → first_greatest zs ≡ Some z → In z zs
greatest-in [] z h = let never : ⊥ = cc in absurd never
greatest-in (i ∷ is) z h = greatest-in-of i z is (first_greatest is) (λ w k. greatest-in is w k) h

keeps-first : (i : Item) (r : Option Item) → ((w : Item) → r ≡ Some w → outranks w.val i.val ≡ false) → first_of_greater i r ≡ Some i
keeps-first i None f = refl
keeps-first i (Some j) f = rw (f j refl)

-- the oldest of the greatest is one that no other goes before
pub greatest-is : (zs : List Item) (x : Item) → Rising (by_key number_of) zs → In x zs → ((z : Item) → In z zs → goes_first z x ≡ false) → first_greatest zs ≡ Some x
greatest-is [] x r k f = absurd k
greatest-is (i ∷ is) x r (inl e) f =
    subst (λ (w : Item). first_of_greater i (first_greatest is) ≡ Some w) (sym e)
    (keeps-first i (first_greatest is) (λ w h. (or-false _ _ (subst (λ (y : Item). goes_first w y ≡ false) e (f w (inr (greatest-in is w h))))).0))
greatest-is (i ∷ is) x r (inr k) f =
    let later : first_greatest is ≡ Some x = greatest-is is x r.1 k (λ z m. f z (inr m)) in
    let above : outranks x.val i.val ≡ true = not-and (outranks x.val i.val) (by_key number_of i x) (or-false (outranks i.val x.val) _ (f i (inl refl))).1 (r.0 x k) in
    rw (later, above)

-- the top of a heap
pub none-above : (heap : List Ranked) (x : Item) → IsUpperBound ranked_cmp (ranked x) heap → (z : Item) → In z (map ranked_item heap) → goes_first z x ≡ false
none-above [] x h z k = absurd k
none-above (r ∷ rs) x h z (inl e) = subst (λ (w : Item). goes_first w x ≡ false) (sym e) (goes-cmp r.item x ∙ h.0)
none-above (r ∷ rs) x h z (inr k) = none-above rs x h.1 z k

pub top-is : (heap : List Ranked) (x : Item) → Once number_of (map ranked_item heap) → In x (map ranked_item heap) → IsUpperBound ranked_cmp (ranked x) heap → first_greatest (by_age (map ranked_item heap)) ≡ Some x
top-is heap x once k top =
    greatest-is (by_age (map ranked_item heap)) x (once-rises number_of (map ranked_item heap) once) (sorted-in (by_key number_of) x (map ranked_item heap) k)
    (λ z m. none-above heap x top z (in-sorted (by_key number_of) z (map ranked_item heap) m))

-- ---- places

pub age-place : (xs : List Item) (k : ℕ) (r : Option Item) → Once number_of xs → MatchOption r (All (λ x. ahead (precedes O.Age) xs x ≡ k → ⊥) xs) (λ x. IsNth (precedes O.Age) xs k x) → r ≡ slice_get (by_age xs) k
age-place xs k r once h =
    nth-is (by_key number_of) (key-strict number_of) xs (by_age xs) k r (once-rises number_of xs once)
    (λ z m. sorted-in (by_key number_of) z xs m) (λ z m. in-sorted (by_key number_of) z xs m)
    (λ z. sym (sum-sorted (by_key number_of) (λ y. cond (by_key number_of y z) 1 0) xs)) h

pub rank-place : (xs : List Item) (k : ℕ) (r : Option Item) → Once number_of xs → MatchOption r (All (λ x. ahead (precedes O.Rank) xs x ≡ k → ⊥) xs) (λ x. IsNth (precedes O.Rank) xs k x) → r ≡ slice_get (sorted_by ranks_before (by_age xs)) k
rank-place xs k r once h =
    nth-is goes_first goes-strict xs (sorted_by ranks_before (by_age xs)) k r (rank-rises (by_age xs) (once-rises number_of xs once))
    (λ z m. sorted-in ranks_before z (by_age xs) (sorted-in (by_key number_of) z xs m))
    (λ z m. in-sorted (by_key number_of) z xs (in-sorted ranks_before z (by_age xs) m))
    (λ z. sym (sum-sorted ranks_before (λ y. cond (goes_first y z) 1 0) (by_age xs) ∙ sum-sorted (by_key number_of) (λ y. cond (goes_first y z) 1 0) xs)) h
