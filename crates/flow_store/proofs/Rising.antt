-- Lists that rise by a test: one that has the same members is the same.
use Rattle.std.proofs.Common.{◌≡◌, ℕ, zero, suc, length, get_or, ◌<◌, ◌≤◌, Bool, true, false, cond, nat_eq, nat_lt, List, [], ◌∷◌, ◌++◌, refl, sym, ap, ◌∙◌, subst, arith, inl, inr, ◌⊎◌}
use Rattle.std.proofs.lemmas.Bool.{ltb-true, ltb-false, lt-ltb, eq-eqb}
use Rattle.std.proofs.lemmas.Bool.Decides.{eqb_tells}
use Rattle.std.specs.List.{sum_by}
use Rattle.std.specs.List.Sorted.{IsPermutation}
use Rattle.std.proofs.lemmas.List.Sums.{sum_by-cons}
use Rattle.std.proofs.lemmas.List.Sorted.{sum_by-IsPermutation, All-permutation, IsPermutation-sym}
use Rattle.flow_item.specs.Lists.{drop_first}
use Rattle.flow_machine.specs.PrintOrder.{insert_by, sorted_by}
use Rattle.flow_store.specs.Orders.{In, mark, Once, by_key, Rising}

module _ {X : Type 0} where
  -- ---- members of sorted lists

  in-insert-by : (b : Bool) (z x y : X) (ys rest : List X) → (In z rest → (z ≡ x) ⊎ In z ys) → In z (cond b (y ∷ rest) (x ∷ y ∷ ys)) → (z ≡ x) ⊎ In z (y ∷ ys)
  in-insert-by true z x y ys rest deep (inl h) = inr (inl h)
  in-insert-by true z x y ys rest deep (inr h) = after (deep h)
    where
      after : (z ≡ x) ⊎ In z ys → (z ≡ x) ⊎ In z (y ∷ ys)
      after (inl e) = inl e
      after (inr k) = inr (inr k)
  in-insert-by false z x y ys rest deep h = h

  pub in-insert : (test : X → X → Bool) (z x : X) (ys : List X) → In z (insert_by test x ys) → (z ≡ x) ⊎ In z ys
  in-insert test z x [] h = h
  in-insert test z x (y ∷ ys) h = in-insert-by (test y x) z x y ys (insert_by test x ys) (in-insert test z x ys) h

  insert-in-by : (b : Bool) (z x y : X) (ys rest : List X) → ((z ≡ x) ⊎ In z ys → In z rest) → (z ≡ x) ⊎ In z (y ∷ ys) → In z (cond b (y ∷ rest) (x ∷ y ∷ ys))
  insert-in-by true z x y ys rest deep (inl e) = inr (deep (inl e))
  insert-in-by true z x y ys rest deep (inr (inl e)) = inl e
  insert-in-by true z x y ys rest deep (inr (inr k)) = inr (deep (inr k))
  insert-in-by false z x y ys rest deep h = h

  pub insert-in : (test : X → X → Bool) (z x : X) (ys : List X) → (z ≡ x) ⊎ In z ys → In z (insert_by test x ys)
  insert-in test z x [] h = h
  insert-in test z x (y ∷ ys) h = insert-in-by (test y x) z x y ys (insert_by test x ys) (insert-in test z x ys) h

  or-later : (z x : X) (ys zs : List X) → (In z ys → In z zs) → (z ≡ x) ⊎ In z ys → (z ≡ x) ⊎ In z zs
  or-later z x ys zs f (inl e) = inl e
  or-later z x ys zs f (inr k) = inr (f k)

  pub in-sorted : (test : X → X → Bool) (z : X) (xs : List X) → In z (sorted_by test xs) → In z xs
  in-sorted test z [] h = h
  in-sorted test z (x ∷ xs) h = or-later z x (sorted_by test xs) xs (in-sorted test z xs) (in-insert test z x (sorted_by test xs) h)

  pub sorted-in : (test : X → X → Bool) (z : X) (xs : List X) → In z xs → In z (sorted_by test xs)
  sorted-in test z [] h = h
  sorted-in test z (x ∷ xs) h = insert-in test z x (sorted_by test xs) (or-later z x xs (sorted_by test xs) (sorted-in test z xs) h)

-- a strict order
pub record IsStrict {X : Type 0} (before : X → X → Bool) : Type 0 where
  pub asym : (x y : X) → before x y ≡ true → before y x ≡ true → ⊥
  pub trans : (x y z : X) → before x y ≡ true → before y z ≡ true → before x z ≡ true

module _ {X : Type 0} (before : X → X → Bool) (o : IsStrict before) where
  same-heads : (x y : X) (xs ys : List X) → Rising before (x ∷ xs) → Rising before (y ∷ ys) → (x ≡ y) ⊎ In x ys → (y ≡ x) ⊎ In y xs → x ≡ y
  same-heads x y xs ys rx ry (inl e) g = e
  same-heads x y xs ys rx ry (inr p) (inl e) = sym e
  same-heads x y xs ys rx ry (inr p) (inr q) = absurd (o.asym x y (rx.0 y q) (ry.0 x p))

  in-tail : (x y z : X) (xs ys : List X) → Rising before (x ∷ xs) → x ≡ y → In z xs → (z ≡ y) ⊎ In z ys → In z ys
  in-tail x y z xs ys rx e h (inl k) =
      let up = subst (λ (w : X). before x w ≡ true) (k ∙ sym e) (rx.0 z h) in
      absurd (o.asym x x up up)
  in-tail x y z xs ys rx e h (inr k) = k

  -- two that rise and have the same members are the same
  pub same-members : (xs ys : List X) → Rising before xs → Rising before ys → ((z : X) → In z xs → In z ys) → ((z : X) → In z ys → In z xs) → xs ≡ ys
  same-members [] [] rx ry f g = refl
  same-members [] (y ∷ ys) rx ry f g = absurd (g y (inl refl))
  same-members (x ∷ xs) [] rx ry f g = absurd (f x (inl refl))
  same-members (x ∷ xs) (y ∷ ys) rx ry f g =
      let e : x ≡ y = same-heads x y xs ys rx ry (f x (inl refl)) (g y (inl refl)) in
      let later : xs ≡ ys = same-members xs ys rx.1 ry.1
      (λ z h. in-tail x y z xs ys rx e h (f z (inr h)))
      (λ z h. in-tail y x z ys xs ry (sym e) h (g z (inr h))) in
      ap (λ w. w ∷ xs) e ∙ ap (λ ws. y ∷ ws) later

  rising-insert-by : (b : Bool) (test : X → X → Bool) (x y : X) (ys : List X)
      → (b ≡ true → before y x ≡ true) → (b ≡ false → before x y ≡ true)
      → Rising before (y ∷ ys) → Rising before (insert_by test x ys) → Rising before (cond b (y ∷ insert_by test x ys) (x ∷ y ∷ ys))
  rising-insert-by true test x y ys low high r later = (λ z h. goes z (in-insert test z x ys h), later)
    where
      goes : (z : X) → (z ≡ x) ⊎ In z ys → before y z ≡ true
      goes z (inl e) = subst (λ (w : X). before y w ≡ true) (sym e) (low refl)
      goes z (inr k) = r.0 z k
  rising-insert-by false test x y ys low high r later = (goes, r)
    where
      goes : (z : X) → (z ≡ y) ⊎ In z ys → before x z ≡ true
      goes z (inl e) = subst (λ (w : X). before x w ≡ true) (sym e) (high refl)
      goes z (inr k) = o.trans x y z (high refl) (r.0 z k)

  -- one more is put where the test tells
  pub rising-insert : (test : X → X → Bool) (x : X) (ys : List X)
      → ((z : X) → In z ys → test z x ≡ true → before z x ≡ true) → ((z : X) → In z ys → test z x ≡ false → before x z ≡ true)
      → Rising before ys → Rising before (insert_by test x ys)
  rising-insert test x [] low high r = (λ z h. absurd h, tt)
  rising-insert test x (y ∷ ys) low high r =
      rising-insert-by (test y x) test x y ys (low y (inl refl)) (high y (inl refl)) r
      (rising-insert test x ys (λ z h. low z (inr h)) (λ z h. high z (inr h)) r.1)

  -- what is after all others goes last
  pub insert-last : (test : X → X → Bool) (x : X) (ys : List X) → ((z : X) → In z ys → test z x ≡ true) → insert_by test x ys ≡ ys ++ x ∷ []
  insert-last test x [] h = refl
  insert-last test x (y ∷ ys) h = rw (h y (inl refl)) (ap (λ zs. y ∷ zs) (insert-last test x ys (λ z k. h z (inr k))))

module _ {X : Type 0} where
  drop-insert-by : (b : Bool) (test : X → X → Bool) (p : X → Bool) (x y : X) (ys : List X) → p x ≡ true → p y ≡ false
      → drop_first p (insert_by test x ys) ≡ ys → drop_first p (cond b (y ∷ insert_by test x ys) (x ∷ y ∷ ys)) ≡ y ∷ ys
  drop-insert-by true test p x y ys one none later = rw none (ap (λ zs. y ∷ zs) later)
  drop-insert-by false test p x y ys one none later = rw one

  -- the one that passes was put in, and goes again
  pub drop-insert : (test : X → X → Bool) (p : X → Bool) (x : X) (ys : List X) → p x ≡ true → ((z : X) → In z ys → p z ≡ false) → drop_first p (insert_by test x ys) ≡ ys
  drop-insert test p x [] one none = rw one
  drop-insert test p x (y ∷ ys) one none =
      drop-insert-by (test y x) test p x y ys one (none y (inl refl)) (drop-insert test p x ys one (λ z k. none z (inr k)))

-- ---- lists whose members have different numbers

module _ {X : Type 0} (key : X → ℕ) where
  pub key-strict : IsStrict (by_key key)
  key-strict = record {
    asym = λ x y h k. let p = ltb-true (key x) (key y) h in let q = ltb-true (key y) (key x) k in omega arith;
    trans = λ x y z h k. let p = ltb-true (key x) (key y) h in let q = ltb-true (key y) (key z) k in lt-ltb (key x) (key z) (omega arith);
  }

  marked : (n : ℕ) (x : X) → key x ≡ n → mark key n x ≡ 1
  marked n x e = rw (eq-eqb (key x) n e)

  -- a member counts
  in-counts : (z : X) (xs : List X) → In z xs → 1 ≤ sum_by (mark key (key z)) xs
  in-counts z [] h = absurd h
  in-counts z (x ∷ xs) (inl e) = omega (arith, sum_by-cons (mark key (key z)) x xs, marked (key z) x (ap key (sym e)))
  in-counts z (x ∷ xs) (inr k) = omega (arith, sum_by-cons (mark key (key z)) x xs, in-counts z xs k)

  pub once-tail : (x : X) (xs : List X) → Once key (x ∷ xs) → Once key xs
  once-tail x xs h n = omega (arith, h n, sum_by-cons (mark key n) x xs)

  pub once-differs : (x z : X) (xs : List X) → Once key (x ∷ xs) → In z xs → key x ≡ key z → ⊥
  once-differs x z xs h k e = omega (arith, h (key z), sum_by-cons (mark key (key z)) x xs, marked (key z) x e, in-counts z xs k)

  pub once-permutation : (xs ys : List X) → IsPermutation xs ys → Once key xs → Once key ys
  once-permutation xs ys p h n = rw (sum_by-IsPermutation (mark key n) xs ys p) (h n)

  none-marked : (n : ℕ) (xs : List X) → ((z : X) → In z xs → key z ≡ n → ⊥) → sum_by (mark key n) xs ≡ 0
  none-marked n [] h = refl
  none-marked n (x ∷ xs) h = by_test (eqb_tells (key x) n) (none-marked n xs (λ z k. h z (inr k)))
    where
      by_test : ((nat_eq (key x) n ≡ true) × (key x ≡ n)) ⊎ ((nat_eq (key x) n ≡ false) × (key x ≡ n → ⊥)) → sum_by (mark key n) xs ≡ 0 → sum_by (mark key n) (x ∷ xs) ≡ 0
      by_test (inl (b, e)) later = absurd (h x (inl refl) e)
      by_test (inr (b, e)) later =
          let here : mark key n x ≡ 0 = rw b in
          omega (arith, sum_by-cons (mark key n) x xs)

  -- one more with another number
  pub once-more : (x : X) (xs : List X) → Once key xs → ((z : X) → In z xs → key z ≡ key x → ⊥) → Once key (x ∷ xs)
  once-more x xs h new n = by_test (eqb_tells (key x) n)
    where
      by_test : ((nat_eq (key x) n ≡ true) × (key x ≡ n)) ⊎ ((nat_eq (key x) n ≡ false) × (key x ≡ n → ⊥)) → sum_by (mark key n) (x ∷ xs) ≤ 1
      by_test (inl (b, e)) =
          let none : sum_by (mark key n) xs ≡ 0 = none-marked n xs (λ z k f. new z k (f ∙ sym e)) in
          let here : mark key n x ≡ 1 = rw b in
          omega (arith, sum_by-cons (mark key n) x xs)
      by_test (inr (b, e)) =
          let here : mark key n x ≡ 0 = rw b in
          omega (arith, sum_by-cons (mark key n) x xs, h n)

  apart : (x z : X) → (key x ≡ key z → ⊥) → nat_lt (key z) (key x) ≡ false → nat_lt (key x) (key z) ≡ true
  apart x z h b = lt-ltb (key x) (key z) (by_order (key x) (key z) h b)
    where
      by_order : (m n : ℕ) → (m ≡ n → ⊥) → nat_lt n m ≡ false → m < n
      by_order m n h b = let low = ltb-false n m b in omega (arith, h)

  -- sorted by the number, they rise
  pub once-rises : (xs : List X) → Once key xs → Rising (by_key key) (sorted_by (by_key key) xs)
  once-rises [] h = tt
  once-rises (x ∷ xs) h =
      rising-insert (by_key key) key-strict (by_key key) x (sorted_by (by_key key) xs)
      (λ z k b. b)
      (λ z k b. apart x z (once-differs x z xs h (in-sorted (by_key key) z xs k)) b)
      (once-rises xs (once-tail x xs h))

  -- the order in which they stood doesn't matter
  pub sorted-permutation : (xs ys : List X) → Once key xs → ((z : X) → In z xs → In z ys) → ((z : X) → In z ys → In z xs) → Once key ys → sorted_by (by_key key) xs ≡ sorted_by (by_key key) ys
  sorted-permutation xs ys h f g k =
      same-members (by_key key) key-strict (sorted_by (by_key key) xs) (sorted_by (by_key key) ys) (once-rises xs h) (once-rises ys k)
      (λ z m. sorted-in (by_key key) z ys (f z (in-sorted (by_key key) z xs m)))
      (λ z m. sorted-in (by_key key) z xs (g z (in-sorted (by_key key) z ys m)))

-- ---- permutations

module _ {X : Type 0} where
  in-at : (xs : List X) (i : ℕ) (d : X) → i < length xs → In (get_or xs i d) xs
  in-at [] i d h = absurd (omega (arith, h))
  in-at (x ∷ xs) zero d h = inl refl
  in-at (x ∷ xs) (suc i) d h = inr (in-at xs i d (omega arith))

  pub all-in : (P : X → Type 0) (xs : List X) (z : X) → ((i : ℕ) (d : X) → i < length xs → P (get_or xs i d)) → In z xs → P z
  all-in P [] z h k = absurd k
  all-in P (x ∷ xs) z h (inl e) = subst P (sym e) (h 0 x (omega arith))
  all-in P (x ∷ xs) z h (inr k) = all-in P xs z (λ i d m. h (suc i) d (omega arith)) k

  pub permuted-in : (xs ys : List X) → IsPermutation xs ys → (z : X) → In z ys → In z xs
  permuted-in xs ys p z h = all-in (λ y. In y xs) ys z (All-permutation (λ y. In y xs) xs ys p (in-at xs)) h

module _ {X : Type 0} (key : X → ℕ) where
  -- what is sorted doesn't show the order before
  pub sorted-same : (xs ys : List X) → IsPermutation xs ys → Once key xs → sorted_by (by_key key) xs ≡ sorted_by (by_key key) ys
  sorted-same xs ys p h =
      sorted-permutation key xs ys h (permuted-in ys xs (IsPermutation-sym xs ys p)) (permuted-in xs ys p) (once-permutation key xs ys p h)

  -- one more with the greatest number goes last
  pub sorted-more : (x : X) (xs ys : List X) → IsPermutation (x ∷ xs) ys → Once key xs → ((z : X) → In z xs → nat_lt (key z) (key x) ≡ true)
      → (Once key ys) × (sorted_by (by_key key) ys ≡ sorted_by (by_key key) xs ++ x ∷ [])
  sorted-more x xs ys p h new =
      let one : Once key (x ∷ xs) = once-more key x xs h (λ z k e. let low = ltb-true (key z) (key x) (new z k) in omega arith) in (
        once-permutation key (x ∷ xs) ys p one,
        sym (sorted-same (x ∷ xs) ys p one)
            ∙ insert-last (by_key key) (key-strict key) (by_key key) x (sorted_by (by_key key) xs) (λ z k. new z (in-sorted (by_key key) z xs k)),
      )

  -- one goes
  pub sorted-less : (x : X) (xs ys : List X) → IsPermutation xs (x ∷ ys) → Once key xs
      → (Once key ys) × (sorted_by (by_key key) ys ≡ drop_first (λ y. nat_eq (key y) (key x)) (sorted_by (by_key key) xs))
  sorted-less x xs ys p h =
      let one : Once key (x ∷ ys) = once-permutation key xs (x ∷ ys) p h in (
        once-tail key x ys one,
        sym (drop-insert (by_key key) (λ y. nat_eq (key y) (key x)) x (sorted_by (by_key key) ys) (eq-eqb (key x) (key x) refl)
            (λ z k. differs (key z) (key x) (λ e. once-differs key x z ys one (in-sorted (by_key key) z ys k) (sym e))))
            ∙ ap (drop_first (λ y. nat_eq (key y) (key x))) (sym (sorted-same xs (x ∷ ys) p h)),
      )
    where
      differs : (m n : ℕ) → (m ≡ n → ⊥) → nat_eq m n ≡ false
      differs m n f = by_test (eqb_tells m n)
        where
          by_test : ((nat_eq m n ≡ true) × (m ≡ n)) ⊎ ((nat_eq m n ≡ false) × (m ≡ n → ⊥)) → nat_eq m n ≡ false
          by_test (inl (b, e)) = absurd (f e)
          by_test (inr (b, e)) = b
