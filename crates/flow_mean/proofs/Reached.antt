-- What is reached along edges, and cycles.
use Rattle.std.proofs.Common.{◌≡◌, ℕ, zero, suc, ◌+◌, ◌-◌, ◌≤◌, ◌<◌, Bool, true, false, cond, ◌&&◌, ◌||◌, eqb, ltb, Some, None, List, [], ◌∷◌, ◌++◌, length, refl, sym, ap, ◌∙◌, arith, eq-eqb}
use Rattle.std.proofs.lemmas.Bool.{eqb-true, ltb-true}
use Rattle.std.specs.Prelude.{slice_get}
use Rattle.std.specs.List.{list_any}
use Rattle.flow_item.specs.Lists.{has, with_number, first}
use Rattle.flow_item.proofs.Tests.{and_left, and_right, both_true}
use Rattle.flow_item.proofs.Places.{has-with-same, has-with-other}
use Rattle.flow_shape.specs.declared.Edge.{Edge}
use Rattle.flow_shape.specs.declared.Kind.{Kind}
use Rattle.flow_shape.specs.declared.Shape.{Shape}
use Rattle.flow_shape.specs.Rules.{IsValid}
use Rattle.flow_shape.specs.Orders.{leads, HasCycle}
use Rattle.flow_shape.proofs.Valid.{passes-some, valid-joins_nodes}
use Rattle.flow_mean.specs.Determinate.{onward, onward_times, next_of, is_on_cycle, nodes_where}
use Rattle.flow_mean.proofs.Graph.{Back, once-more, no-long}

pub with-has : (x y : ℕ) (ns : List ℕ) → has (with_number x ns) y ≡ (eqb x y || has ns y)
with-has x y ns = by (eqb x y) refl
  where
    by : (b : Bool) → eqb x y ≡ b → has (with_number x ns) y ≡ (b || has ns y)
    by true e = let same : x ≡ y = eqb-true x y e in rw same (has-with-same y ns)
    by false e = has-with-other x y ns e

module _ (size : ℕ) where
  -- the edges join numbers below the size
  abbrev pub Joined : List Edge → Type 0
  Joined es = (i : ℕ) (e : Edge) → slice_get es i ≡ Some e → (e.from < size) × (e.to < size)

-- ---- what is reached is led to

-- one edge or more lead from a to b
abbrev Way : Shape → ℕ → ℕ → Type 0
Way shape a b = (x : ℕ) × (xs : List ℕ) × (leads shape (x ∷ xs) a b ≡ true)

leads-last : (shape : Shape) (xs : List ℕ) (a b x : ℕ) (e : Edge) → leads shape xs a b ≡ true → slice_get shape.edges x ≡ Some e → e.from ≡ b → leads shape (xs ++ x ∷ []) a e.to ≡ true
leads-last shape [] a b x e h at from =
    let same : e.from ≡ a = from ∙ sym (eqb-true a b h) in
    let there : (eqb e.from a && eqb e.to e.to) ≡ true = both_true (eq-eqb e.from a same) (eq-eqb e.to e.to refl) in
    rw at there
leads-last shape (y ∷ ys) a b x e h at from =
    let found = passes-some (λ (d : Edge). eqb d.from a && leads shape ys d.to b) (slice_get shape.edges y) h in
    let is : slice_get shape.edges y ≡ Some found.0 = found.1 in
    let later : leads shape (ys ++ x ∷ []) found.0.to e.to ≡ true = leads-last shape ys found.0.to b x e (and_right (eqb found.0.from a) _ found.2) at from in
    let there : (eqb found.0.from a && leads shape (ys ++ x ∷ []) found.0.to e.to) ≡ true = both_true (and_left (eqb found.0.from a) _ found.2) later in
    rw is there

module _ (shape : Shape) (a : ℕ) where
  -- each of these edges is one of the shape
  abbrev Some_of : List Edge → Type 0
  Some_of es = (i : ℕ) (e : Edge) → slice_get es i ≡ Some e → (x : ℕ) × (slice_get shape.edges x ≡ Some e)

  abbrev Led : List ℕ → Type 0
  Led ns = (b : ℕ) → has ns b ≡ true → Way shape a b

  with-led : (y : ℕ) (ns : List ℕ) → Way shape a y → Led ns → Led (with_number y ns)
  with-led y ns w led b h = by (eqb y b) refl (sym (with-has y b ns) ∙ h)
    where
      by : (c : Bool) → eqb y b ≡ c → (c || has ns b) ≡ true → Way shape a b
      by true e k = let same : y ≡ b = eqb-true y b e in (w.0, w.1, rw same at w.2)
      by false e k = led b k

  next-led : (es : List Edge) → Some_of es → Led (next_of es a)
  next-led [] some = λ b h. (let never : ⊥ = cc in absurd never)
  next-led (e ∷ es) some = by (eqb e.from a) refl (next-led es (λ i. some (suc i)))
    where
      by : (c : Bool) → eqb e.from a ≡ c → Led (next_of es a) → Led (cond c (with_number e.to (next_of es a)) (next_of es a))
      by true q led =
          let x = some 0 e refl in
          let at : slice_get shape.edges x.0 ≡ Some e = x.1 in
          let there : (eqb e.from a && eqb e.to e.to) ≡ true = both_true q (eq-eqb e.to e.to refl) in
          let way : leads shape (x.0 ∷ []) a e.to ≡ true = rw at there in
          with-led e.to (next_of es a) (x.0, [], way) led
      by false q led = led

  onward-led : (es : List Edge) (ns : List ℕ) → Some_of es → Led ns → Led (onward es ns)
  onward-led [] ns some led = led
  onward-led (e ∷ es) ns some led = onward-led es (cond (has ns e.from) (with_number e.to ns) ns) (λ i. some (suc i)) (by (has ns e.from) refl)
    where
      by : (c : Bool) → has ns e.from ≡ c → Led (cond c (with_number e.to ns) ns)
      by true q =
          let w = led e.from q in
          let x = some 0 e refl in
          with-led e.to ns (w.0, w.1 ++ x.0 ∷ [], leads-last shape (w.0 ∷ w.1) a e.from x.0 e w.2 x.1 refl) led
      by false q = led

  times-led : (k : ℕ) (ns : List ℕ) → Led ns → Led (onward_times k shape.edges ns)
  times-led zero ns led = led
  times-led (suc k) ns led = times-led k (onward shape.edges ns) (onward-led shape.edges ns (λ i e at. (i, at)) led)

pub on-cycle : (shape : Shape) (n : ℕ) → is_on_cycle shape n ≡ true → HasCycle shape
on-cycle shape n h =
    let w = times-led shape n (length shape.nodes) (next_of shape.edges n) (next-led shape n shape.edges (λ i e at. (i, at))) n h in
    (n, w.0, w.1, w.2)

-- ---- a cycle is met

joined : (shape : Shape) → IsValid shape → Joined (length shape.nodes) shape.edges
joined shape valid i e at =
    let both = valid-joins_nodes shape i e valid at in
    (ltb-true _ _ (and_left (ltb e.from (length shape.nodes)) _ both), ltb-true _ _ (and_right (ltb e.from (length shape.nodes)) _ both))

-- the way as the nodes met, the last ones first
back-of : (shape : Shape) (xs : List ℕ) (a b : ℕ) (ms : List ℕ) → leads shape xs a b ≡ true → Back shape.edges a ms → (ns : List ℕ) × Back shape.edges b ns × (length ns ≡ length xs + length ms)
back-of shape [] a b ms h w = let same : a ≡ b = eqb-true a b h in (ms, rw same at w, omega arith)
back-of shape (x ∷ xs) a b ms h w =
    let found = passes-some (λ (d : Edge). eqb d.from a && leads shape xs d.to b) (slice_get shape.edges x) h in
    let from : found.0.from ≡ a = eqb-true _ _ (and_left (eqb found.0.from a) _ found.2) in
    let rest = back-of shape xs found.0.to b (a ∷ ms) (and_right (eqb found.0.from a) _ found.2) ((x, found.0, found.1, from, refl), w) in
    (rest.0, rest.1, omega (arith, rest.2))

-- the cycle, so many times
rounds : (shape : Shape) (k x : ℕ) (xs : List ℕ) (n : ℕ) → leads shape (x ∷ xs) n n ≡ true → (ms : List ℕ) × Back shape.edges n ms × (k ≤ length ms)
rounds shape zero x xs n h = ([], tt, omega arith)
rounds shape (suc k) x xs n h =
    let before = rounds shape k x xs n h in
    let more = back-of shape (x ∷ xs) n n before.0 h before.1 in
    (more.0, more.1, omega (arith, before.2, more.2))

first-from : (shape : Shape) (x : ℕ) (xs : List ℕ) (n : ℕ) → IsValid shape → leads shape (x ∷ xs) n n ≡ true → n < length shape.nodes
first-from shape x xs n valid h =
    let found = passes-some (λ (d : Edge). eqb d.from n && leads shape xs d.to n) (slice_get shape.edges x) h in
    let from : found.0.from ≡ n = eqb-true _ _ (and_left (eqb found.0.from n) _ found.2) in
    rw from at (joined shape valid x found.0 found.1).0

pub no-cycle-left : (shape : Shape) → IsValid shape → ((n : ℕ) → n < length shape.nodes → is_on_cycle shape n ≡ false) → HasCycle shape → ⊥
no-cycle-left shape valid none c =
    let way = rounds shape (length shape.nodes) c.1 c.2 c.0 c.3 in
    no-long shape.edges (length shape.nodes) (joined shape valid) none c.0 way.0 (first-from shape c.1 c.2 c.0 valid c.3) way.1 way.2

-- ---- nodes where a test fails

pub where-none : (bad : ℕ → Kind → Bool) (x : ℕ) (ks : List Kind) → ((i n : ℕ) (k : Kind) → n ≡ x + i → slice_get ks i ≡ Some k → bad n k ≡ false) → nodes_where bad x ks ≡ []
where-none bad x [] h = refl
where-none bad x (k ∷ ks) h = rw (h 0 x k (omega arith) refl) (where-none bad (suc x) ks (λ i n l q at. h (suc i) n l (omega (arith, q)) at))

pub acyclic-none : (shape : Shape) → (HasCycle shape → ⊥) → None ≡ first (nodes_where (λ n k. is_on_cycle shape n) 0 shape.nodes)
acyclic-none shape never = sym (ap first (where-none (λ n k. is_on_cycle shape n) 0 shape.nodes (λ i n k q at. by n (is_on_cycle shape n) refl)))
  where
    by : (n : ℕ) (b : Bool) → is_on_cycle shape n ≡ b → b ≡ false
    by n true e = absurd (never (on-cycle shape n e))
    by n false e = refl

pub times-more : (i : ℕ) (es : List Edge) (ns : List ℕ) → onward_times (i + 1) es ns ≡ onward es (onward_times i es ns)
times-more i es ns = ap (λ k. onward_times k es ns) plus ∙ once-more i es ns
  where
    plus : i + 1 ≡ suc i
    plus = omega arith

-- the next nodes, as a test of the edges
pub next-any : (k n : ℕ) (es : List Edge) → list_any (λ (e : Edge). eqb e.from k && eqb e.to n) es ≡ has (next_of es k) n
next-any k n [] = refl
next-any k n (e ∷ es) = by (eqb e.from k) (next-any k n es)
  where
    by : (b : Bool) → list_any (λ (e : Edge). eqb e.from k && eqb e.to n) es ≡ has (next_of es k) n → ((b && eqb e.to n) || list_any (λ (e : Edge). eqb e.from k && eqb e.to n) es) ≡ has (cond b (with_number e.to (next_of es k)) (next_of es k)) n
    by true h = ap (λ b. eqb e.to n || b) h ∙ sym (with-has e.to n (next_of es k))
    by false h = h
