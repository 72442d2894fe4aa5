-- While the nodes are put in order each step keeps what stands.
use Rattle.std.proofs.Common.{◌≡◌, ◌≢◌, ◌⊎◌, inl, inr, ℕ, zero, suc, ◌+◌, ◌-◌, ◌<◌, ◌≤◌, Bool, true, false, not, cond, ◌&&◌, ◌||◌, eqb, ltb, Some, Result, Ok, Err, OnOk, List, [], ◌∷◌, ◌++◌, length, get_or, take, drop, refl, sym, ap, subst, ◌∙◌, arith, eq-eqb, append_assoc}
use Rattle.std.specs.Prelude.{slice_get, slice_set}
use Rattle.std.specs.List.{list_all, list_any, IsDistinct, AllByRecursion}
use Rattle.std.proofs.lemmas.Bool.{eqb-true, ltb-true, lt-ltb}
use Rattle.std.proofs.lemmas.Option.{slice_get-get_or, slice_get_read, get_or_from_slice_get}
use Rattle.std.proofs.lemmas.Map.Steps.{length-le_from_distinct_below}
use Rattle.std.proofs.lemmas.List.{append-nil, get_or-set_same, get_or-set_other, length-set, take_more, take_all, take-append-le}
use Rattle.flow_item.specs.Lists.{has, places}
use Rattle.flow_item.proofs.Tests.{and_left, and_right, both_true}
use Rattle.flow_shape.specs.declared.Edge.{Edge}
use Rattle.flow_shape.specs.declared.Shape.{Shape}
use Rattle.flow_shape.specs.Rules.{joins_nodes}
use Rattle.flow_shape.specs.Orders.{has_no_double}
use Rattle.flow_shape.specs.Sorting.{waits, targets, AreTargets, AreWaits, times, followed_once, followed, sourced, Sorting}

pub clash : (b : Bool) → b ≡ true → b ≡ false → ⊥
clash true h k = cc
clash false h k = cc

-- ---- members of longer lists

pub has-last : (m : ℕ) (ns : List ℕ) → has (ns ++ m ∷ []) m ≡ true
has-last m [] = rw (eq-eqb m m refl)
has-last m (n ∷ ns) = rw (has-last m ns) (or_true (eqb n m))
  where
    or_true : (b : Bool) → (b || true) ≡ true
    or_true true = refl
    or_true false = refl

pub has-before-last : (m y : ℕ) (ns : List ℕ) → has ns y ≡ true → has (ns ++ m ∷ []) y ≡ true
has-before-last m y [] h = cc
has-before-last m y (n ∷ ns) h = by (eqb n y) h (has-before-last m y ns)
  where
    by : (b : Bool) → (b || has ns y) ≡ true → (has ns y ≡ true → has (ns ++ m ∷ []) y ≡ true) → (b || has (ns ++ m ∷ []) y) ≡ true
    by true h later = refl
    by false h later = later h

pub has-other-last : (m y : ℕ) (ns : List ℕ) → eqb m y ≡ false → has (ns ++ m ∷ []) y ≡ has ns y
has-other-last m y [] h = rw h
has-other-last m y (n ∷ ns) h = ap (λ b. eqb n y || b) (has-other-last m y ns h)

-- the last is the new one, or was there
pub has-split-last : (m y : ℕ) (ns : List ℕ) → has (ns ++ m ∷ []) y ≡ true → (has ns y ≡ true) ⊎ (m ≡ y)
has-split-last m y ns h = by (eqb m y) refl
  where
    by : (b : Bool) → eqb m y ≡ b → (has ns y ≡ true) ⊎ (m ≡ y)
    by true e = inr (eqb-true m y e)
    by false e = inl (sym (has-other-last m y ns e) ∙ h)

turned : (x y : ℕ) → eqb x y ≡ false → eqb y x ≡ false
turned x y h = by (eqb y x) refl
  where
    by : (b : Bool) → eqb y x ≡ b → b ≡ false
    by true e = absurd (clash (eqb x y) (eq-eqb x y (sym (eqb-true y x e))) h)
    by false e = refl

pub no_double-last : (m : ℕ) (ns : List ℕ) → has_no_double ns ≡ true → has ns m ≡ false → has_no_double (ns ++ m ∷ []) ≡ true
no_double-last m [] d h = refl
no_double-last m (n ∷ ns) d h =
    let apart : eqb n m ≡ false = left (eqb n m) (has ns m) h in
    let later : has ns m ≡ false = right (eqb n m) (has ns m) h in
    let first : not (has (ns ++ m ∷ []) n) ≡ true = ap not (has-other-last m n ns (turned n m apart)) ∙ and_left (not (has ns n)) _ d in
    both_true first (no_double-last m ns (and_right (not (has ns n)) _ d) later)
  where
    left : (a b : Bool) → (a || b) ≡ false → a ≡ false
    left true b q = cc
    left false b q = refl

    right : (a b : Bool) → (a || b) ≡ false → b ≡ false
    right true b q = cc
    right false b q = q

pub all-last : (p : ℕ → Bool) (m : ℕ) (ns : List ℕ) → list_all p ns ≡ true → p m ≡ true → list_all p (ns ++ m ∷ []) ≡ true
all-last p m [] a h = rw h
all-last p m (n ∷ ns) a h = both_true (and_left (p n) _ a) (all-last p m ns (and_right (p n) _ a) h)

sourced-last : (es : List Edge) (m : ℕ) (before ns : List ℕ) → sourced es before ns ≡ true → eqb (waits es (before ++ ns) m) 0 ≡ true → sourced es before (ns ++ m ∷ []) ≡ true
sourced-last es m before [] s h = let whole : before ++ [] ≡ before = append-nil before in both_true (rw whole at h) refl
sourced-last es m before (n ∷ ns) s h =
    let joined : (before ++ n ∷ []) ++ ns ≡ before ++ n ∷ ns = append_assoc before (n ∷ []) ns in
    let there : eqb (waits es ((before ++ n ∷ []) ++ ns) m) 0 ≡ true = ap (λ l. eqb (waits es l m) 0) joined ∙ h in
    both_true (and_left (eqb (waits es before n) 0) _ s) (sourced-last es m (before ++ n ∷ []) ns (and_right (eqb (waits es before n) 0) _ s) there)

-- ---- what a node waits for

-- with more nodes done no node waits for more
pub waits-less : (es : List Edge) (done more : List ℕ) (m : ℕ) → ((y : ℕ) → has done y ≡ true → has more y ≡ true) → waits es more m ≤ waits es done m
waits-less [] done more m h = omega arith
waits-less (e ∷ es) done more m h = by (eqb e.to m) (has done e.from) (has more e.from) (h e.from) (waits-less es done more m h)
  where
    by : (a b c : Bool) → (b ≡ true → c ≡ true) → waits es more m ≤ waits es done m
        → cond (a && not c) (suc (waits es more m)) (waits es more m) ≤ cond (a && not b) (suc (waits es done m)) (waits es done m)
    by true true true k l = l
    by true true false k l = let never : false ≡ true = k refl in cc
    by true false true k l = omega (arith, l)
    by true false false k l = omega (arith, l)
    by false b c k l = l

-- what a node waits for once another is done, and before
pub waits-one : (es : List Edge) (done : List ℕ) (d m : ℕ) → has done d ≡ false → waits es done m ≡ waits es (done ++ d ∷ []) m + times m (targets es d)
waits-one [] done d m h = refl
waits-one (e ∷ es) done d m h = by (eqb e.from d) refl (waits-one es done d m h)
  where
    there : (a : Bool) → waits es done m ≡ waits es (done ++ d ∷ []) m + times m (targets es d)
        → cond (a && true) (suc (waits es done m)) (waits es done m) ≡ cond (a && false) (suc (waits es (done ++ d ∷ []) m)) (waits es (done ++ d ∷ []) m) + cond a (suc (times m (targets es d))) (times m (targets es d))
    there true l = omega (arith, l)
    there false l = l

    elsewhere : (a : Bool) → waits es done m ≡ waits es (done ++ d ∷ []) m + times m (targets es d)
        → cond a (suc (waits es done m)) (waits es done m) ≡ cond a (suc (waits es (done ++ d ∷ []) m)) (waits es (done ++ d ∷ []) m) + times m (targets es d)
    elsewhere true l = omega (arith, l)
    elsewhere false l = l

    by : (b : Bool) → eqb e.from d ≡ b → waits es done m ≡ waits es (done ++ d ∷ []) m + times m (targets es d)
        → waits (e ∷ es) done m ≡ waits (e ∷ es) (done ++ d ∷ []) m + times m (targets (e ∷ es) d)
    by true q l =
        let same : e.from ≡ d = eqb-true e.from d q in
        let out : has done e.from ≡ false = rw same h in
        let in_it : has (done ++ d ∷ []) e.from ≡ true = rw same (has-last d done) in
        rw (q, out, in_it) (there (eqb e.to m) l)
    by false q l =
        let same : has (done ++ d ∷ []) e.from ≡ has done e.from = has-other-last d e.from done (turned e.from d q) in
        rw (q, same) (elsewhere (eqb e.to m && not (has done e.from)) l)

-- ---- one edge

nonzero : (c k : ℕ) → c ≡ suc k → eqb c 0 ≡ false
nonzero c k h = by (eqb c 0) refl
  where
    by : (b : Bool) → eqb c 0 ≡ b → b ≡ false
    by true e = let none : c ≡ 0 = eqb-true c 0 e in absurd (omega (arith, h, none))
    by false e = refl

module _ (shape : Shape) (done : List ℕ) where
  follow-once : (m : ℕ) (left counts order : List ℕ) → m < length shape.nodes → Sorting shape done (m ∷ left) counts order
      → Sorting shape done left (followed_once m (counts, order)).0 (followed_once m (counts, order)).1
  follow-once m left counts order within s = by (eqb (get_or counts m 0 - 1) 0) refl
    where
      inside : m < length counts
      inside = omega (arith, within, s.counted)

      here : get_or counts m 0 ≡ suc (waits shape.edges done m + times m left)
      here =
          let twice : times m (m ∷ left) ≡ suc (times m left) = rw (eq-eqb m m refl) in
          omega (arith, s.waiting m within, twice)

      set_here : get_or (slice_set counts m (get_or counts m 0 - 1)) m 0 ≡ get_or counts m 0 - 1
      set_here = get_or-set_same counts m (get_or counts m 0 - 1) 0 inside

      apart : (j : ℕ) → eqb m j ≡ false → j ≢ m
      apart j e q = clash (eqb m j) (eq-eqb m j (sym q)) e

      set_there : (j : ℕ) → eqb m j ≡ false → get_or (slice_set counts m (get_or counts m 0 - 1)) j 0 ≡ get_or counts j 0
      set_there j e = get_or-set_other counts m j (get_or counts m 0 - 1) 0 (apart j e)

      counted' : length (slice_set counts m (get_or counts m 0 - 1)) ≡ length shape.nodes
      counted' = length-set counts m (get_or counts m 0 - 1) ∙ s.counted

      waiting' : (j : ℕ) → j < length shape.nodes → get_or (slice_set counts m (get_or counts m 0 - 1)) j 0 ≡ waits shape.edges done j + times j left
      waiting' j h = split (eqb m j) refl
        where
          split : (b : Bool) → eqb m j ≡ b → get_or (slice_set counts m (get_or counts m 0 - 1)) j 0 ≡ waits shape.edges done j + times j left
          split true e =
              let same : m ≡ j = eqb-true m j e in
              let less : get_or counts m 0 - 1 ≡ waits shape.edges done m + times m left = omega (arith, here) in
              subst (λ k. get_or (slice_set counts m (get_or counts m 0 - 1)) k 0 ≡ waits shape.edges done k + times k left) same (set_here ∙ less)
          split false e =
              let fewer : times j (m ∷ left) ≡ times j left = rw e in
              set_there j e ∙ s.waiting j h ∙ ap (λ t. waits shape.edges done j + t) fewer

      unready : has order m ≡ false
      unready = s.ready m within ∙ nonzero (get_or counts m 0) (waits shape.edges done m + times m left) here

      by : (b : Bool) → eqb (get_or counts m 0 - 1) 0 ≡ b → Sorting shape done left (slice_set counts m (get_or counts m 0 - 1)) (cond b (order ++ m ∷ []) order)
      by false e = record {
        counted = counted';
        waiting = waiting';
        within = s.within;
        once = s.once;
        ready = λ j h. ready' j h (eqb m j) refl;
        forwards = s.forwards;
        begun = s.begun;
      }
        where
          ready' : (j : ℕ) → j < length shape.nodes → (c : Bool) → eqb m j ≡ c → has order j ≡ eqb (get_or (slice_set counts m (get_or counts m 0 - 1)) j 0) 0
          ready' j h true q =
              let same : m ≡ j = eqb-true m j q in
              subst (λ k. has order k ≡ eqb (get_or (slice_set counts m (get_or counts m 0 - 1)) k 0) 0) same (unready ∙ sym (ap (λ c. eqb c 0) set_here ∙ e))
          ready' j h false q = s.ready j h ∙ sym (ap (λ c. eqb c 0) (set_there j q))
      by true e = record {
        counted = counted';
        waiting = waiting';
        within = all-last (λ n. ltb n (length shape.nodes)) m order s.within is_below;
        once = no_double-last m order s.once unready;
        ready = λ j h. ready' j h (eqb m j) refl;
        forwards = sourced-last shape.edges m [] order s.forwards none;
        begun = λ y h. has-before-last m y order (s.begun y h);
      }
        where
          is_below : ltb m (length shape.nodes) ≡ true
          is_below = lt-ltb m (length shape.nodes) within

          zero_now : get_or counts m 0 - 1 ≡ 0
          zero_now = eqb-true _ 0 e

          none : eqb (waits shape.edges order m) 0 ≡ true
          none =
              let less = waits-less shape.edges done order m s.begun in
              eq-eqb (waits shape.edges order m) 0 (omega (arith, less, here, zero_now))

          ready' : (j : ℕ) → j < length shape.nodes → (c : Bool) → eqb m j ≡ c → has (order ++ m ∷ []) j ≡ eqb (get_or (slice_set counts m (get_or counts m 0 - 1)) j 0) 0
          ready' j h true q =
              let same : m ≡ j = eqb-true m j q in
              subst (λ k. has (order ++ m ∷ []) k ≡ eqb (get_or (slice_set counts m (get_or counts m 0 - 1)) k 0) 0) same (has-last m order ∙ sym (ap (λ c. eqb c 0) set_here ∙ e))
          ready' j h false q = has-other-last m j order q ∙ s.ready j h ∙ sym (ap (λ c. eqb c 0) (set_there j q))

  -- ---- all edges out of a node

  pub follow-each : (left counts order : List ℕ) → list_all (λ n. ltb n (length shape.nodes)) left ≡ true → Sorting shape done left counts order
      → Sorting shape done [] (followed left (counts, order)).0 (followed left (counts, order)).1
  follow-each [] counts order h s = s
  follow-each (m ∷ left) counts order h s =
      follow-each left (followed_once m (counts, order)).0 (followed_once m (counts, order)).1 (and_right (ltb m (length shape.nodes)) _ h)
      (follow-once m left counts order (ltb-true _ _ (and_left (ltb m (length shape.nodes)) _ h)) s)

-- the order only grows
pub followed-grows : (ms counts order : List ℕ) → (more : List ℕ) × ((followed ms (counts, order)).1 ≡ order ++ more)
followed-grows [] counts order = ([], sym (append-nil order))
followed-grows (m ∷ ms) counts order = by (eqb (get_or counts m 0 - 1) 0) (followed-grows ms (slice_set counts m (get_or counts m 0 - 1)))
  where
    by : (b : Bool) → ((o : List ℕ) → (more : List ℕ) × ((followed ms (slice_set counts m (get_or counts m 0 - 1), o)).1 ≡ o ++ more))
        → (more : List ℕ) × ((followed ms (slice_set counts m (get_or counts m 0 - 1), cond b (order ++ m ∷ []) order)).1 ≡ order ++ more)
    by true later = let r = later (order ++ m ∷ []) in (m ∷ r.0, r.1 ∙ append_assoc order (m ∷ []) r.0)
    by false later = later order

-- ---- a whole node

pub all-at : {X : Type 0} (p : X → Bool) (xs : List X) (i : ℕ) (x : X) → list_all p xs ≡ true → slice_get xs i ≡ Some x → p x ≡ true
all-at p [] i x a at = cc
all-at p (y ∷ ys) zero x a at = let same : y ≡ x = cc in rw same at (and_left (p y) _ a)
all-at p (y ∷ ys) (suc i) x a at = all-at p ys i x (and_right (p y) _ a) at

pub all-from : {X : Type 0} (p : X → Bool) (xs : List X) → ((i : ℕ) (x : X) → slice_get xs i ≡ Some x → p x ≡ true) → list_all p xs ≡ true
all-from p [] h = refl
all-from p (x ∷ xs) h = both_true (h 0 x refl) (all-from p xs (λ i y at. h (suc i) y at))

-- edges between nodes go to nodes
pub targets-within : (shape : Shape) (d : ℕ) (es : List Edge) → list_all (joins_nodes shape) es ≡ true → list_all (λ n. ltb n (length shape.nodes)) (targets es d) ≡ true
targets-within shape d [] h = refl
targets-within shape d (e ∷ es) h = by (eqb e.from d) (targets-within shape d es (and_right (joins_nodes shape e) _ h))
  where
    by : (b : Bool) → list_all (λ n. ltb n (length shape.nodes)) (targets es d) ≡ true → list_all (λ n. ltb n (length shape.nodes)) (cond b (e.to ∷ targets es d) (targets es d)) ≡ true
    by true l = both_true (and_right (ltb e.from (length shape.nodes)) _ (and_left (joins_nodes shape e) _ h)) l
    by false l = l

-- the member at a place isn't among those before it
pub apart-before : (ns : List ℕ) (at : ℕ) → has_no_double ns ≡ true → at < length ns → has (take at ns) (get_or ns at 0) ≡ false
apart-before [] at d h = absurd (omega (arith, h))
apart-before (n ∷ ns) zero d h = refl
apart-before (n ∷ ns) (suc at) d h = by (eqb n (get_or ns at 0)) refl (apart-before ns at (and_right (not (has ns n)) _ d) (omega (arith, h)))
  where
    member : (xs : List ℕ) (i : ℕ) → i < length xs → has xs (get_or xs i 0) ≡ true
    member [] i l = absurd (omega (arith, l))
    member (x ∷ xs) zero l = rw (eq-eqb x x refl)
    member (x ∷ xs) (suc i) l = rw (member xs i (omega (arith, l))) (or_true (eqb x (get_or xs i 0)))
      where
        or_true : (b : Bool) → (b || true) ≡ true
        or_true true = refl
        or_true false = refl

    not_true : (b : Bool) → not b ≡ true → b ≡ false
    not_true true q = cc
    not_true false q = refl

    by : (b : Bool) → eqb n (get_or ns at 0) ≡ b → has (take at ns) (get_or ns at 0) ≡ false → (b || has (take at ns) (get_or ns at 0)) ≡ false
    by true e l =
        let same : n ≡ get_or ns at 0 = eqb-true n (get_or ns at 0) e in
        let out : has ns n ≡ false = not_true (has ns n) (and_left (not (has ns n)) _ d) in
        let inside : has ns n ≡ true = rw same (member ns at (omega (arith, h))) in
        absurd (clash (has ns n) inside out)
    by false e l = l

has-take : (ns : List ℕ) (k y : ℕ) → has (take k ns) y ≡ true → has ns y ≡ true
has-take [] zero y h = h
has-take [] (suc k) y h = h
has-take (n ∷ ns) zero y h = cc
has-take (n ∷ ns) (suc k) y h = by (eqb n y) h (has-take ns k y)
  where
    by : (b : Bool) → (b || has (take k ns) y) ≡ true → (has (take k ns) y ≡ true → has ns y ≡ true) → (b || has ns y) ≡ true
    by true h later = refl
    by false h later = later h

module _ (shape : Shape) (at : ℕ) (counts order : List ℕ) where
  -- the next node's edges are to be followed
  pub next-node : at < length order → Sorting shape (take at order) [] counts order → Sorting shape (take at order ++ get_or order at 0 ∷ []) (targets shape.edges (get_or order at 0)) counts order
  next-node h s = record {
    counted = s.counted;
    waiting = λ m q. s.waiting m q ∙ zero_more (waits shape.edges (take at order) m) ∙ waits-one shape.edges (take at order) (get_or order at 0) m (apart-before order at s.once h);
    within = s.within;
    once = s.once;
    ready = s.ready;
    forwards = s.forwards;
    begun = λ y q. has-take order (suc at) y (rw (sym more) at q);
  }
    where
      zero_more : (k : ℕ) → k + 0 ≡ k
      zero_more k = omega arith

      one_more : at + 1 ≡ suc at
      one_more = omega arith

      more : take (suc at) order ≡ take at order ++ get_or order at 0 ∷ []
      more = ap (λ k. take k order) (sym one_more) ∙ take_more order at 0 h

  pub node-within : at < length order → Sorting shape (take at order) [] counts order → get_or order at 0 < length shape.nodes
  node-within h s = ltb-true _ _ (all-at (λ n. ltb n (length shape.nodes)) order at (get_or order at 0) s.within (slice_get-get_or order at 0 h))

  -- its edges are followed
  pub node-followed : (counts' order' : List ℕ) → list_all (joins_nodes shape) shape.edges ≡ true → at < length order → Sorting shape (take at order) [] counts order
      → (counts', order') ≡ followed (targets shape.edges (get_or order at 0)) (counts, order) → Sorting shape (take (at + 1) order') [] counts' order'
  node-followed counts' order' joined h s same =
      let after = follow-each shape (take at order ++ get_or order at 0 ∷ []) (targets shape.edges (get_or order at 0)) counts order (targets-within shape (get_or order at 0) shape.edges joined) (next-node h s) in
      let grown = followed-grows (targets shape.edges (get_or order at 0)) counts order in
      let longer : order' ≡ order ++ grown.0 = ap (λ (p : List ℕ × List ℕ). p.1) same ∙ grown.1 in
      let begun : take (at + 1) order' ≡ take at order ++ get_or order at 0 ∷ [] = ap (take (at + 1)) longer ∙ take-append-le (at + 1) order grown.0 (omega (arith, h)) ∙ take_more order at 0 h in
      subst (λ (done : List ℕ). Sorting shape done [] counts' order') (sym begun)
      (subst (λ (p : List ℕ × List ℕ). Sorting shape (take at order ++ get_or order at 0 ∷ []) [] p.0 p.1) (sym same) after)

  pub none-there : length order ≤ at → Sorting shape (take at order) [] counts order → Sorting shape (take (at + 1) order) [] counts order
  none-there h s =
      let whole : take at order ≡ order = take_all at order h in
      let more : take (at + 1) order ≡ order = take_all (at + 1) order (omega (arith, h)) in
      subst (λ (done : List ℕ). Sorting shape done [] counts order) (whole ∙ sym more) s

-- ---- the start

places-from : (n : ℕ) (ks : List ℕ) (y : ℕ) → has (places (λ k. eqb k 0) n ks) y ≡ true → n ≤ y
places-from n [] y h = cc
places-from n (k ∷ ks) y h = by (eqb k 0) h (places-from (suc n) ks y)
  where
    by : (b : Bool) → has (cond b (n ∷ places (λ k. eqb k 0) (suc n) ks) (places (λ k. eqb k 0) (suc n) ks)) y ≡ true → (has (places (λ k. eqb k 0) (suc n) ks) y ≡ true → suc n ≤ y) → n ≤ y
    by true h later = first (eqb n y) refl h
      where
        first : (c : Bool) → eqb n y ≡ c → (c || has (places (λ k. eqb k 0) (suc n) ks) y) ≡ true → n ≤ y
        first true e h = let same : n ≡ y = eqb-true n y e in omega (arith, same)
        first false e h = let there : suc n ≤ y = later h in omega (arith, there)
    by false h later = let there : suc n ≤ y = later h in omega (arith, there)

none-below : (n : ℕ) (ks : List ℕ) (y : ℕ) → y < n → has (places (λ k. eqb k 0) n ks) y ≡ false
none-below n ks y h = by (has (places (λ k. eqb k 0) n ks) y) refl
  where
    by : (b : Bool) → has (places (λ k. eqb k 0) n ks) y ≡ b → b ≡ false
    by true e = let least : n ≤ y = places-from n ks y e in absurd (omega (arith, h, least))
    by false e = refl

places-once : (n : ℕ) (ks : List ℕ) → has_no_double (places (λ k. eqb k 0) n ks) ≡ true
places-once n [] = refl
places-once n (k ∷ ks) = by (eqb k 0) (places-once (suc n) ks)
  where
    by : (b : Bool) → has_no_double (places (λ k. eqb k 0) (suc n) ks) ≡ true → has_no_double (cond b (n ∷ places (λ k. eqb k 0) (suc n) ks) (places (λ k. eqb k 0) (suc n) ks)) ≡ true
    by true l = both_true (ap not (none-below (suc n) ks n (omega arith))) l
    by false l = l

places-ready : (n : ℕ) (ks : List ℕ) (m i : ℕ) → m ≡ n + i → i < length ks → has (places (λ k. eqb k 0) n ks) m ≡ eqb (get_or ks i 0) 0
places-ready n [] m i q h = absurd (omega (arith, h))
places-ready n (k ∷ ks) m zero q h = by (eqb k 0)
  where
    here : n ≡ m
    here = omega (arith, q)

    by : (b : Bool) → has (cond b (n ∷ places (λ k. eqb k 0) (suc n) ks) (places (λ k. eqb k 0) (suc n) ks)) m ≡ b
    by true = rw (eq-eqb n m here)
    by false = none-below (suc n) ks m (omega (arith, q))
places-ready n (k ∷ ks) m (suc i) q h = by (eqb k 0) ∙ places-ready (suc n) ks m i (omega (arith, q)) (omega (arith, h))
  where
    other : (c : Bool) → eqb n m ≡ c → c ≡ false
    other true e = let same : n ≡ m = eqb-true n m e in absurd (omega (arith, q, same))
    other false e = refl

    by : (b : Bool) → has (cond b (n ∷ places (λ k. eqb k 0) (suc n) ks) (places (λ k. eqb k 0) (suc n) ks)) m ≡ has (places (λ k. eqb k 0) (suc n) ks) m
    by true = rw (other (eqb n m) refl)
    by false = refl

places-within : (most n : ℕ) (ks : List ℕ) → n + length ks ≤ most → list_all (λ m. ltb m most) (places (λ k. eqb k 0) n ks) ≡ true
places-within most n [] h = refl
places-within most n (k ∷ ks) h = by (eqb k 0) (places-within most (suc n) ks (omega (arith, h)))
  where
    below : n < most
    below = omega (arith, h)

    is_below : ltb n most ≡ true
    is_below = lt-ltb n most below

    by : (b : Bool) → list_all (λ m. ltb m most) (places (λ k. eqb k 0) (suc n) ks) ≡ true → list_all (λ m. ltb m most) (cond b (n ∷ places (λ k. eqb k 0) (suc n) ks) (places (λ k. eqb k 0) (suc n) ks)) ≡ true
    by true l = both_true is_below l
    by false l = l

-- whatever stands before, a node waits for no more than with none done
less-waits : (es : List Edge) (before : List ℕ) (m : ℕ) → waits es [] m ≡ 0 → eqb (waits es before m) 0 ≡ true
less-waits es before m h =
    let less : waits es before m ≤ waits es [] m = waits-less es [] before m (λ y q. absurd (clash false q refl)) in
    eq-eqb (waits es before m) 0 (omega (arith, less, h))

all-free : (es : List Edge) (before ms : List ℕ) → list_all (λ m. eqb (waits es [] m) 0) ms ≡ true → sourced es before ms ≡ true
all-free es before [] h = refl
all-free es before (m ∷ ms) h = both_true (less-waits es before m (eqb-true _ 0 (and_left (eqb (waits es [] m) 0) _ h))) (all-free es (before ++ m ∷ []) ms (and_right (eqb (waits es [] m) 0) _ h))

free-each : (p : ℕ → Bool) (n : ℕ) (ks : List ℕ) → ((i m : ℕ) → m ≡ n + i → i < length ks → eqb (get_or ks i 0) 0 ≡ true → p m ≡ true) → list_all p (places (λ k. eqb k 0) n ks) ≡ true
free-each p n [] h = refl
free-each p n (k ∷ ks) h = by (eqb k 0) refl (free-each p (suc n) ks (λ i m q l z. h (suc i) m (omega (arith, q)) (omega (arith, l)) z))
  where
    by : (b : Bool) → eqb k 0 ≡ b → list_all p (places (λ k. eqb k 0) (suc n) ks) ≡ true → list_all p (cond b (n ∷ places (λ k. eqb k 0) (suc n) ks) (places (λ k. eqb k 0) (suc n) ks)) ≡ true
    by true e l = both_true (h 0 n (omega arith) (omega arith) e) l
    by false e l = l

pub sort-begins : (shape : Shape) (counts : List ℕ) → AreWaits shape counts → Sorting shape [] [] counts (places (λ k. eqb k 0) 0 counts)
sort-begins shape counts a = record {
  counted = a.0;
  waiting = λ m h. a.1 m h ∙ zero_more (waits shape.edges [] m);
  within = places-within (length shape.nodes) 0 counts (omega (arith, a.0));
  once = places-once 0 counts;
  ready = λ m h. places-ready 0 counts m m (omega arith) (omega (arith, h, a.0));
  forwards = all-free shape.edges [] (places (λ k. eqb k 0) 0 counts) (free-each (λ m. eqb (waits shape.edges [] m) 0) 0 counts free);
  begun = λ m h. absurd (clash false h refl);
}
  where
    zero_more : (k : ℕ) → k ≡ k + 0
    zero_more k = omega arith

    free : (i m : ℕ) → m ≡ 0 + i → i < length counts → eqb (get_or counts i 0) 0 ≡ true → eqb (waits shape.edges [] m) 0 ≡ true
    free i m q h z =
        let here : i ≡ m = omega (arith, q) in
        let zero_there : get_or counts m 0 ≡ 0 = ap (λ k. get_or counts k 0) (sym here) ∙ eqb-true _ 0 z in
        let same : get_or counts m 0 ≡ waits shape.edges [] m = a.1 m (omega (arith, h, here, a.0)) in
        eq-eqb (waits shape.edges [] m) 0 (sym same ∙ zero_there)

-- ---- the end

waits-within : (es : List Edge) (done : List ℕ) (m : ℕ) → waits es done m ≤ length es
waits-within [] done m = omega arith
waits-within (e ∷ es) done m = by (eqb e.to m && not (has done e.from)) (waits-within es done m)
  where
    by : (b : Bool) → waits es done m ≤ length es → cond b (suc (waits es done m)) (waits es done m) ≤ suc (length es)
    by true l = omega (arith, l)
    by false l = omega (arith, l)

-- a count that still grows to what its node waits for has room
pub count_fits : (es : List Edge) (m c rest : ℕ) → length es ≤ 4096 → c + rest ≡ waits es [] m → c + 1 ≤ 4097
count_fits es m c rest few h = let most = waits-within es [] m in omega (arith, few, h, most)

-- distinct numbers below n are at most n
all-apart : (x : ℕ) (xs : List ℕ) → has xs x ≡ false → AllByRecursion (λ y. eqb x y ≡ false) xs
all-apart x [] h = tt
all-apart x (y ∷ ys) h = (turned y x (left (eqb y x) (has ys x) h), all-apart x ys (right (eqb y x) (has ys x) h))
  where
    left : (a b : Bool) → (a || b) ≡ false → a ≡ false
    left true b q = cc
    left false b q = refl

    right : (a b : Bool) → (a || b) ≡ false → b ≡ false
    right true b q = cc
    right false b q = q

distinct : (xs : List ℕ) → has_no_double xs ≡ true → IsDistinct eqb xs
unfolding IsDistinct
distinct [] h = tt
distinct (x ∷ xs) h = (all-apart x xs (not_true (has xs x) (and_left (not (has xs x)) _ h)), distinct xs (and_right (not (has xs x)) _ h))
  where
    not_true : (b : Bool) → not b ≡ true → b ≡ false
    not_true true q = cc
    not_true false q = refl

any-below : (n : ℕ) (xs : List ℕ) → list_all (λ m. ltb m n) xs ≡ true → (q : ℕ) → list_any (eqb q) xs ≡ true → q < n
any-below n [] a q h = cc
any-below n (x ∷ xs) a q h = by (eqb q x) refl h (any-below n xs (and_right (ltb x n) _ a) q)
  where
    by : (b : Bool) → eqb q x ≡ b → (b || list_any (eqb q) xs) ≡ true → (list_any (eqb q) xs ≡ true → q < n) → q < n
    by true e k later = let same : q ≡ x = eqb-true q x e in rw same (ltb-true x n (and_left (ltb x n) _ a))
    by false e k later = later k

pub few-distinct : (n : ℕ) (xs : List ℕ) → has_no_double xs ≡ true → list_all (λ m. ltb m n) xs ≡ true → length xs ≤ n
few-distinct n xs d a = length-le_from_distinct_below xs n (distinct xs d) (any-below n xs a)

pub sort-ends : (shape : Shape) (at : ℕ) (counts order : List ℕ) → length shape.nodes ≤ at → Sorting shape (take at order) [] counts order → Sorting shape order [] counts order
sort-ends shape at counts order h s =
    let few = few-distinct (length shape.nodes) order s.once s.within in
    subst (λ (done : List ℕ). Sorting shape done [] counts order) (take_all at order (omega (arith, h, few))) s

-- what is read at a place of the order, and the list that is read for it
pub node-list : (shape : Shape) (lists : List (List ℕ)) (at node : ℕ) (list counts order : List ℕ) → AreTargets shape lists → at < length order → node ≡ get_or order at node → list ≡ get_or lists node list
    → Sorting shape (take at order) [] counts order → list ≡ targets shape.edges (get_or order at 0)
node-list shape lists at node list counts order a h read_node read_list s =
    let same : get_or order at 0 ≡ node = get_or_from_slice_get order at node 0 (slice_get_read order (length order) at node refl h read_node) in
    let within : node < length shape.nodes = rw same at (node-within shape at counts order h s) in
    let read : get_or lists node [] ≡ list = get_or_from_slice_get lists node list [] (slice_get_read lists (length lists) node list refl (omega (arith, within, a.0)) read_list) in
    sym read ∙ a.1 node within ∙ ap (targets shape.edges) (sym same)

pub on-ok : {T E : Type 0} (r : Result T E) {P Q : Type 0} → (P → Q) → OnOk r P → OnOk r Q
on-ok (Ok x) f p = f p
on-ok (Err e) f p = p

-- a count that is read for the next edge
pub count-read : (shape : Shape) (items : List Edge) (counts : List ℕ) (i : ℕ) (d : Edge) (c : ℕ) → items ≡ shape.edges → list_all (joins_nodes shape) shape.edges ≡ true → length shape.edges ≤ 4096
    → (length counts ≡ length shape.nodes) × ((m : ℕ) → m < length shape.nodes → get_or counts m 0 + waits (drop i shape.edges) [] m ≡ waits shape.edges [] m)
    → i < length items → c ≡ get_or counts (get_or items i d).to c → c + 1 ≤ 4097
count-read shape items counts i d c same joined few inv h read =
    let e = get_or items i d in
    let there : slice_get shape.edges i ≡ Some e = subst (λ (l : List Edge). slice_get l i ≡ Some e) same (slice_get-get_or items i d h) in
    let below : e.to < length shape.nodes = ltb-true _ _ (and_right (ltb e.from (length shape.nodes)) _ (all-at (joins_nodes shape) shape.edges i e joined there)) in
    let count : get_or counts e.to 0 ≡ c = get_or_from_slice_get counts e.to c 0 (slice_get_read counts (length counts) e.to c refl (omega (arith, below, inv.0)) read) in
    count_fits shape.edges e.to c (waits (drop i shape.edges) [] e.to) few (ap (λ k. k + waits (drop i shape.edges) [] e.to) (sym count) ∙ inv.1 e.to below)

pub refilled : (k : ℕ) (ws rest : List ℕ) → length ws ≡ k → take k (ws ++ rest) ≡ ws
refilled k ws rest h = take-append-le k ws rest (omega (arith, h)) ∙ take_all k ws (omega (arith, h))
