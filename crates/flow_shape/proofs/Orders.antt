-- A whole order refutes each cycle, and where some node waits for ever there is one.
use Rattle.std.proofs.Common.{◌≡◌, ◌⊎◌, inl, inr, ℕ, zero, suc, ◌+◌, ◌<◌, ◌≤◌, Bool, true, false, not, cond, ◌&&◌, ◌||◌, eqb, ltb, Some, List, [], ◌∷◌, ◌++◌, length, get_or, refl, sym, ap, subst, ◌∙◌, arith, eq-eqb}
use Rattle.std.specs.Prelude.{slice_get}
use Rattle.std.specs.List.{list_all}
use Rattle.std.proofs.lemmas.Bool.{eqb-true, ltb-true, lt-ltb}
use Rattle.flow_item.specs.Lists.{has}
use Rattle.flow_item.proofs.Tests.{and_left, and_right, both_true}
use Rattle.flow_shape.specs.declared.Edge.{Edge}
use Rattle.flow_shape.specs.declared.Shape.{Shape}
use Rattle.flow_shape.specs.Wiring.{is_some_and, at_edge}
use Rattle.flow_shape.specs.Rules.{each_below, joins_nodes, IsValid}
use Rattle.flow_shape.specs.Orders.{stands_before, has_no_double, is_order, leads, HasCycle, Sorts}
use Rattle.flow_shape.specs.Sorting.{waits, sourced, Sorting}
use Rattle.flow_shape.proofs.Valid.{passes-some, valid-joins_nodes}
use Rattle.flow_shape.proofs.Sorting.{clash, has-split-last, all-at, all-from, few-distinct}

pub valid_joined : (shape : Shape) → IsValid shape → list_all (joins_nodes shape) shape.edges ≡ true
valid_joined shape valid = all-from (joins_nodes shape) shape.edges (λ x e at. valid-joins_nodes shape x e valid at)

-- ---- each edge goes forwards

-- a node that waits for none has each of its sources among those that are done
source-done : (es : List Edge) (done : List ℕ) (x : ℕ) (e : Edge) → slice_get es x ≡ Some e → waits es done e.to ≡ 0 → has done e.from ≡ true
source-done [] done x e at h = cc
source-done (d ∷ es) done zero e at h =
    let same : d ≡ e = cc in
    let here : waits (e ∷ es) done e.to ≡ 0 = subst (λ (f : Edge). waits (f ∷ es) done e.to ≡ 0) same h in
    by (has done e.from) refl (rw (eq-eqb e.to e.to refl) at here)
  where
    by : (b : Bool) → has done e.from ≡ b → cond (true && not b) (suc (waits es done e.to)) (waits es done e.to) ≡ 0 → b ≡ true
    by true q k = refl
    by false q k = absurd (omega (arith, k))
source-done (d ∷ es) done (suc x) e at h = source-done es done x e at (by (eqb d.to e.to && not (has done d.from)) h)
  where
    by : (b : Bool) → cond b (suc (waits es done e.to)) (waits es done e.to) ≡ 0 → waits es done e.to ≡ 0
    by true k = absurd (omega (arith, k))
    by false k = k

goes-forwards : (es : List Edge) (x : ℕ) (e : Edge) (before ms : List ℕ) → slice_get es x ≡ Some e → sourced es before ms ≡ true → has ms e.to ≡ true
    → (has before e.from ≡ true) ⊎ (stands_before e.from e.to ms ≡ true)
goes-forwards es x e before [] at s h = cc
goes-forwards es x e before (m ∷ ms) at s h = by (eqb m e.to) refl h (goes-forwards es x e (before ++ m ∷ []) ms at (and_right (eqb (waits es before m) 0) _ s))
  where
    or_true : (b : Bool) → (b || true) ≡ true
    or_true true = refl
    or_true false = refl

    later : (has (before ++ m ∷ []) e.from ≡ true) ⊎ (stands_before e.from e.to ms ≡ true) → (has before e.from ≡ true) ⊎ ((eqb m e.from || stands_before e.from e.to ms) ≡ true)
    later (inl k) = last (has-split-last m e.from before k)
      where
        last : (has before e.from ≡ true) ⊎ (m ≡ e.from) → (has before e.from ≡ true) ⊎ ((eqb m e.from || stands_before e.from e.to ms) ≡ true)
        last (inl q) = inl q
        last (inr q) = inr (rw (eq-eqb m e.from q))
    later (inr k) = inr (rw k (or_true (eqb m e.from)))

    by : (b : Bool) → eqb m e.to ≡ b → (b || has ms e.to) ≡ true → (has ms e.to ≡ true → (has (before ++ m ∷ []) e.from ≡ true) ⊎ (stands_before e.from e.to ms ≡ true))
        → (has before e.from ≡ true) ⊎ (cond b false (eqb m e.from || stands_before e.from e.to ms) ≡ true)
    by true q k more =
        let same : m ≡ e.to = eqb-true m e.to q in
        let none : waits es before m ≡ 0 = eqb-true (waits es before m) 0 (and_left (eqb (waits es before m) 0) _ s) in
        inl (source-done es before x e at (ap (waits es before) (sym same) ∙ none))
    by false q k more = later (more k)

-- ---- an order refutes each cycle

abbrev place : ℕ → List ℕ → ℕ
place n [] = 0
place n (m ∷ ms) = cond (eqb m n) 0 (suc (place n ms))

rises : (a b : ℕ) (ns : List ℕ) → stands_before a b ns ≡ true → place a ns < place b ns
rises a b [] h = cc
rises a b (n ∷ ns) h = by (eqb n b) (eqb n a) h (rises a b ns)
  where
    by : (at_b at_a : Bool) → cond at_b false (at_a || stands_before a b ns) ≡ true → (stands_before a b ns ≡ true → place a ns < place b ns)
        → cond at_a 0 (suc (place a ns)) < cond at_b 0 (suc (place b ns))
    by true at_a k later = cc
    by false true k later = omega arith
    by false false k later = let less = later k in omega (arith, less)

module _ (shape : Shape) (order : List ℕ) (forwards : list_all (λ (e : Edge). stands_before e.from e.to order) shape.edges ≡ true) where
  edge-rises : (x : ℕ) (e : Edge) → slice_get shape.edges x ≡ Some e → place e.from order < place e.to order
  edge-rises x e at = rises e.from e.to order (all-at (λ (e : Edge). stands_before e.from e.to order) shape.edges x e forwards at)

  way-rises : (x : ℕ) (xs : List ℕ) (a b : ℕ) → leads shape (x ∷ xs) a b ≡ true → place a order < place b order
  way-rises x [] a b h =
      let found = passes-some (λ (e : Edge). eqb e.from a && eqb e.to b) (slice_get shape.edges x) h in
      let from : found.0.from ≡ a = eqb-true _ _ (and_left (eqb found.0.from a) _ found.2) in
      let to : found.0.to ≡ b = eqb-true _ _ (and_right (eqb found.0.from a) _ found.2) in
      let up = edge-rises x found.0 found.1 in
      let first : place a order ≡ place found.0.from order = ap (λ n. place n order) (sym from) in
      let last : place found.0.to order ≡ place b order = ap (λ n. place n order) to in
      omega (arith, up, first, last)
  way-rises x (y ∷ ys) a b h =
      let found = passes-some (λ (e : Edge). eqb e.from a && leads shape (y ∷ ys) e.to b) (slice_get shape.edges x) h in
      let from : found.0.from ≡ a = eqb-true _ _ (and_left (eqb found.0.from a) _ found.2) in
      let up = edge-rises x found.0 found.1 in
      let first : place a order ≡ place found.0.from order = ap (λ n. place n order) (sym from) in
      let rest = way-rises y ys found.0.to b (and_right (eqb found.0.from a) _ found.2) in
      omega (arith, up, first, rest)

  pub no-cycle : HasCycle shape → ⊥
  no-cycle c = let more = way-rises c.1 c.2 c.0 c.0 c.3 in omega (arith, more)

-- ---- where each node has come, there is an order

each_below-from : (test : ℕ → Bool) (n : ℕ) → ((m : ℕ) → m < n → test m ≡ true) → each_below test n ≡ true
each_below-from test zero h = refl
each_below-from test (suc n) h = both_true (each_below-from test n (λ m q. h m (omega (arith, q)))) (h n (omega arith))

module _ (shape : Shape) (counts order : List ℕ) (joined : list_all (joins_nodes shape) shape.edges ≡ true) (s : Sorting shape order [] counts order) where
  pub sorted_whole : ((m : ℕ) → m < length counts → get_or counts m 0 ≡ 0) → Sorts shape (Some order)
  sorted_whole none = (both_true (both_true (both_true all_there s.within) s.once) forwards, no-cycle shape order forwards)
    where
      there : (m : ℕ) → m < length shape.nodes → has order m ≡ true
      there m h = s.ready m h ∙ ap (λ c. eqb c 0) (none m (omega (arith, h, s.counted)))

      all_there : each_below (has order) (length shape.nodes) ≡ true
      all_there = each_below-from (has order) (length shape.nodes) there

      forwards : list_all (λ (e : Edge). stands_before e.from e.to order) shape.edges ≡ true
      forwards = all-from (λ (e : Edge). stands_before e.from e.to order) shape.edges (λ x e at. by (goes-forwards shape.edges x e [] order at s.forwards (to_there x e at)))
        where
          to_there : (x : ℕ) (e : Edge) → slice_get shape.edges x ≡ Some e → has order e.to ≡ true
          to_there x e at = there e.to (ltb-true _ _ (and_right (ltb e.from (length shape.nodes)) _ (all-at (joins_nodes shape) shape.edges x e joined at)))

          by : {b : Bool} → (false ≡ true) ⊎ (b ≡ true) → b ≡ true
          by (inl q) = absurd (clash false q refl)
          by (inr q) = q

  -- ---- where one still waits, there is a cycle

  abbrev Step : ℕ → ℕ → Type 0
  Step a b = (x : ℕ) × (e : Edge) × (slice_get shape.edges x ≡ Some e) × (e.from ≡ a) × (e.to ≡ b)

  -- the edges from a to the first of the list, and from each to the next
  abbrev Trail : ℕ → List ℕ → Type 0
  Trail a [] = Unit {0}
  Trail a (b ∷ bs) = Step a b × Trail b bs

  waits-some : (es : List Edge) (done : List ℕ) (m : ℕ) → eqb (waits es done m) 0 ≡ false → (x : ℕ) × (e : Edge) × (slice_get es x ≡ Some e) × (e.to ≡ m) × (has done e.from ≡ false)
  waits-some [] done m h = absurd (clash (eqb 0 0) refl h)
  waits-some (e ∷ es) done m h = by (eqb e.to m) (has done e.from) refl refl h (waits-some es done m)
    where
      by : (a b : Bool) → eqb e.to m ≡ a → has done e.from ≡ b → eqb (cond (a && not b) (suc (waits es done m)) (waits es done m)) 0 ≡ false
          → (eqb (waits es done m) 0 ≡ false → (x : ℕ) × (d : Edge) × (slice_get es x ≡ Some d) × (d.to ≡ m) × (has done d.from ≡ false))
          → (x : ℕ) × (d : Edge) × (slice_get (e ∷ es) x ≡ Some d) × (d.to ≡ m) × (has done d.from ≡ false)
      by true false q r k later = (0, e, refl, eqb-true e.to m q, r)
      by true true q r k later = let t = later k in (suc t.0, t.1, t.2, t.3, t.4)
      by false b q r k later = let t = later k in (suc t.0, t.1, t.2, t.3, t.4)

  -- a node that hasn't come has a source that hasn't
  back : (m : ℕ) → m < length shape.nodes → has order m ≡ false → (a : ℕ) × Step a m × (a < length shape.nodes) × (has order a ≡ false)
  back m h out =
      let zero_more : waits shape.edges order m + 0 ≡ waits shape.edges order m = omega arith in
      let count : get_or counts m 0 ≡ waits shape.edges order m = s.waiting m h ∙ zero_more in
      let still : eqb (waits shape.edges order m) 0 ≡ false = ap (λ c. eqb c 0) (sym count) ∙ sym (s.ready m h) ∙ out in
      let t = waits-some shape.edges order m still in
      let below : t.1.from < length shape.nodes = ltb-true _ _ (and_left (ltb t.1.from (length shape.nodes)) _ (all-at (joins_nodes shape) shape.edges t.0 t.1 joined t.2)) in
      (t.1.from, (t.0, t.1, t.2, refl, t.3), below, t.4)

  -- a trail of any length leads to it
  trail-of : (k m : ℕ) → m < length shape.nodes → has order m ≡ false
      → (a : ℕ) × (bs : List ℕ) × Trail a bs × (length bs ≡ k) × (list_all (λ n. ltb n (length shape.nodes)) bs ≡ true) × (a < length shape.nodes) × (has order a ≡ false)
  trail-of zero m h out = (m, [], tt, refl, refl, h, out)
  trail-of (suc k) m h out =
      let r = trail-of k m h out in
      let b = back r.0 r.5 r.6 in
      (b.0, r.0 ∷ r.1, (b.1, r.2), ap suc r.3, both_true (lt-ltb _ _ r.5) r.4, b.2, b.3)

  one-step : (a b : ℕ) (xs : List ℕ) (c : ℕ) (st : Step a b) → leads shape xs b c ≡ true → leads shape (st.0 ∷ xs) a c ≡ true
  one-step a b xs c st h =
      let from : eqb st.1.from a ≡ true = eq-eqb _ _ st.3 in
      let rest : leads shape xs st.1.to c ≡ true = ap (λ n. leads shape xs n c) st.4 ∙ h in
      ap (is_some_and (λ (e : Edge). eqb e.from a && leads shape xs e.to c)) st.2 ∙ both_true from rest

  reach : (a y : ℕ) (bs : List ℕ) → Trail a bs → has bs y ≡ true → (x : ℕ) × (xs : List ℕ) × (leads shape (x ∷ xs) a y ≡ true)
  reach a y [] t h = cc
  reach a y (b ∷ bs) t h = by (eqb b y) refl h (reach b y bs t.1)
    where
      by : (c : Bool) → eqb b y ≡ c → (c || has bs y) ≡ true → (has bs y ≡ true → (x : ℕ) × (xs : List ℕ) × (leads shape (x ∷ xs) b y ≡ true)) → (x : ℕ) × (xs : List ℕ) × (leads shape (x ∷ xs) a y ≡ true)
      by true q k later = (t.0.0, [], one-step a b [] y t.0 q)
      by false q k later = let r = later k in (t.0.0, r.0 ∷ r.1, one-step a b (r.0 ∷ r.1) y t.0 r.2)

  cycle-on : (a : ℕ) (bs : List ℕ) → Trail a bs → has_no_double (a ∷ bs) ≡ false → HasCycle shape
  cycle-on a [] t h = cc
  cycle-on a (b ∷ bs) t h = by (has (b ∷ bs) a) refl h (λ k. cycle-on b bs t.1 k)
    where
      by : (c : Bool) → has (b ∷ bs) a ≡ c → (not c && has_no_double (b ∷ bs)) ≡ false → (has_no_double (b ∷ bs) ≡ false → HasCycle shape) → HasCycle shape
      by true q k later = let r = reach a a (b ∷ bs) t q in (a, r.0, r.1, r.2)
      by false q k later = later k

  pub stuck_cycle : (m : ℕ) → m < length counts → eqb (get_or counts m 0) 0 ≡ false → HasCycle shape
  stuck_cycle m h waiting =
      let below : m < length shape.nodes = omega (arith, h, s.counted) in
      let r = trail-of (length shape.nodes) m below (s.ready m below ∙ waiting) in
      by r.0 r.1 r.2 r.3 (both_true (lt-ltb _ _ r.5) r.4) (has_no_double (r.0 ∷ r.1)) refl
    where
      by : (a : ℕ) (bs : List ℕ) → Trail a bs → length bs ≡ length shape.nodes → list_all (λ n. ltb n (length shape.nodes)) (a ∷ bs) ≡ true → (c : Bool) → has_no_double (a ∷ bs) ≡ c → HasCycle shape
      by a bs t long within true d = let few = few-distinct (length shape.nodes) (a ∷ bs) d within in absurd (omega (arith, few, long))
      by a bs t long within false d = cycle-on a bs t d
