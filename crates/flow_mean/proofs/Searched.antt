-- While the nodes are looked for to which a way leads each step keeps what stands.
use Rattle.std.proofs.Common.{◌⊎◌, inl, inr, ◌≡◌, ℕ, zero, suc, ◌+◌, ◌-◌, ◌≤◌, ◌<◌, Bool, true, false, cond, ◌&&◌, ◌||◌, eqb, ltb, Some, List, [], ◌∷◌, ◌++◌, length, get_or, replicate, set, refl, sym, ap, subst, ◌∙◌, arith, eq-eqb, get_or-set_other, get_or-set_same}
use Rattle.std.proofs.lemmas.Bool.{eqb-true, ltb-true, ltb-false, lt-ltb}
use Rattle.std.proofs.lemmas.List.{length-set, length-append, length-replicate, get_or-replicate}
use Rattle.std.proofs.lemmas.Option.{slice_get_read, get_or_from_slice_get}
use Rattle.std.specs.Prelude.{slice_get}
use Rattle.std.specs.List.{list_all, list_any}
use Rattle.flow_item.specs.Lists.{has, with_number}
use Rattle.flow_item.proofs.Tests.{and_left, and_right}
use Rattle.flow_shape.specs.declared.Edge.{Edge}
use Rattle.flow_shape.specs.declared.Shape.{Shape}
use Rattle.flow_shape.specs.Orders.{has_no_double}
use Rattle.flow_shape.specs.Rules.{joins_nodes}
use Rattle.flow_shape.specs.Sorting.{targets, AreTargets}
use Rattle.flow_shape.proofs.Sorting.{has-last, has-before-last, has-other-last, no_double-last, all-last, all-at, few-distinct, targets-within}
use Rattle.flow_mean.specs.Determinate.{onward, onward_times, next_of}
use Rattle.flow_mean.specs.Judging.{AreMarks}
use Rattle.flow_mean.specs.Searching.{met_once, met, Searching}
use Rattle.flow_mean.proofs.Graph.{times-keep, onward-leads}
use Rattle.flow_mean.proofs.Reached.{with-has, next-any, times-more}

or-left : (a b : Bool) → a ≡ true → (a || b) ≡ true
or-left true b h = refl
or-left false b h = cc

or-right : (a b : Bool) → b ≡ true → (a || b) ≡ true
or-right true b h = refl
or-right false b h = h

or-none : (a : Bool) → (a || false) ≡ true → a ≡ true
or-none true h = refl
or-none false h = cc

-- ---- members and places

get-last : (xs : List ℕ) (m i k : ℕ) → slice_get (xs ++ m ∷ []) i ≡ Some k → (slice_get xs i ≡ Some k) ⊎ ((i ≡ length xs) × (m ≡ k))
get-last [] m zero k h = inr (refl, cc)
get-last [] m (suc i) k h = cc
get-last (x ∷ xs) m zero k h = inl h
get-last (x ∷ xs) m (suc i) k h = by (get-last xs m i k h)
  where
    by : (slice_get xs i ≡ Some k) ⊎ ((i ≡ length xs) × (m ≡ k)) → (slice_get xs i ≡ Some k) ⊎ ((suc i ≡ suc (length xs)) × (m ≡ k))
    by (inl q) = inl q
    by (inr q) = inr (ap suc q.0, q.1)

get-less : (xs : List ℕ) (i k : ℕ) → slice_get xs i ≡ Some k → i < length xs
get-less [] i k h = cc
get-less (x ∷ xs) zero k h = omega arith
get-less (x ∷ xs) (suc i) k h = omega (arith, get-less xs i k h)

has-place : (xs : List ℕ) (k : ℕ) → has xs k ≡ true → (i : ℕ) × (slice_get xs i ≡ Some k)
has-place [] k h = cc
has-place (x ∷ xs) k h = by (eqb x k) refl h (has-place xs k)
  where
    by : (b : Bool) → eqb x k ≡ b → (b || has xs k) ≡ true → (has xs k ≡ true → (i : ℕ) × (slice_get xs i ≡ Some k)) → (i : ℕ) × (slice_get (x ∷ xs) i ≡ Some k)
    by true e q later = (0, ap Some (eqb-true x k e))
    by false e q later = let there = later q in (suc there.0, there.1)

-- ---- the to-nodes of a node's edges

targets-any : (k n : ℕ) (es : List Edge) → list_any (λ (e : Edge). eqb e.from k && eqb e.to n) es ≡ has (targets es k) n
targets-any k n [] = refl
targets-any k n (e ∷ es) = by (eqb e.from k) (targets-any k n es)
  where
    by : (b : Bool) → list_any (λ (e : Edge). eqb e.from k && eqb e.to n) es ≡ has (targets es k) n → ((b && eqb e.to n) || list_any (λ (e : Edge). eqb e.from k && eqb e.to n) es) ≡ has (cond b (e.to ∷ targets es k) (targets es k)) n
    by true h = ap (λ b. eqb e.to n || b) h
    by false h = h

targets-next : (k n : ℕ) (es : List Edge) → has (targets es k) n ≡ has (next_of es k) n
targets-next k n es = sym (targets-any k n es) ∙ next-any k n es

targets-has : (es : List Edge) (x : ℕ) (e : Edge) → slice_get es x ≡ Some e → has (targets es e.from) e.to ≡ true
targets-has [] x e at = cc
targets-has (d ∷ es) zero e at =
    let same : d ≡ e = cc in
    let from : eqb d.from e.from ≡ true = eq-eqb d.from e.from (ap (λ (f : Edge). f.from) same) in
    let to : eqb d.to e.to ≡ true = eq-eqb d.to e.to (ap (λ (f : Edge). f.to) same) in
    ap (λ b. has (cond b (d.to ∷ targets es e.from) (targets es e.from)) e.to) from ∙ ap (λ b. b || has (targets es e.from) e.to) to
targets-has (d ∷ es) (suc x) e at = by (eqb d.from e.from) (targets-has es x e at)
  where
    by : (b : Bool) → has (targets es e.from) e.to ≡ true → has (cond b (d.to ∷ targets es e.from) (targets es e.from)) e.to ≡ true
    by true h = or-right (eqb d.to e.to) _ h
    by false h = h

targets-edge : (es : List Edge) (k n : ℕ) → has (targets es k) n ≡ true → (x : ℕ) × (e : Edge) × (slice_get es x ≡ Some e) × (e.from ≡ k) × (e.to ≡ n)
targets-edge [] k n h = cc
targets-edge (d ∷ es) k n h = by (eqb d.from k) (eqb d.to n) refl refl h (targets-edge es k n)
  where
    more : (has (targets es k) n ≡ true → (x : ℕ) × (e : Edge) × (slice_get es x ≡ Some e) × (e.from ≡ k) × (e.to ≡ n)) → has (targets es k) n ≡ true → (x : ℕ) × (e : Edge) × (slice_get (d ∷ es) x ≡ Some e) × (e.from ≡ k) × (e.to ≡ n)
    more later q = let there = later q in (suc there.0, there.1, there.2, there.3, there.4)

    by : (b c : Bool) → eqb d.from k ≡ b → eqb d.to n ≡ c → has (cond b (d.to ∷ targets es k) (targets es k)) n ≡ true → (has (targets es k) n ≡ true → (x : ℕ) × (e : Edge) × (slice_get es x ≡ Some e) × (e.from ≡ k) × (e.to ≡ n)) → (x : ℕ) × (e : Edge) × (slice_get (d ∷ es) x ≡ Some e) × (e.from ≡ k) × (e.to ≡ n)
    by true true f t q later = (0, d, refl, eqb-true d.from k f, eqb-true d.to n t)
    by true false f t q later = more later (sym (ap (λ c. c || has (targets es k) n) t) ∙ q)
    by false c f t q later = more later q

-- ---- the steps

module _ (shape : Shape) (firsts : List ℕ) where
  -- a node is met that was marked
  met-before : (at m : ℕ) (left : List ℕ) (marks : List Bool) (order : List ℕ) → has order m ≡ true → Searching shape firsts at (m ∷ left) marks order → Searching shape firsts at left marks order
  met-before at m left marks order there s = record {
    sized = s.sized;
    within = s.within;
    once = s.once;
    marked = s.marked;
    reached = s.reached;
    next = λ n h. s.next n (or-right (eqb m n) _ h);
    begun = λ n h. shorter n (s.begun n h);
    followed = λ i x e less at is. shorter e.to (s.followed i x e less at is);
  }
    where
      shorter : (n : ℕ) → (has order n || (eqb m n || has left n)) ≡ true → (has order n || has left n) ≡ true
      shorter n h = by (eqb m n) refl h
        where
          by : (b : Bool) → eqb m n ≡ b → (has order n || (b || has left n)) ≡ true → (has order n || has left n) ≡ true
          by true e q = let same : m ≡ n = eqb-true m n e in or-left (has order n) _ (subst (λ x. has order x ≡ true) same there)
          by false e q = q

  -- a node is met that wasn't
  met-new : (at m : ℕ) (left : List ℕ) (marks : List Bool) (order : List ℕ) → m < length shape.nodes → has order m ≡ false → Searching shape firsts at (m ∷ left) marks order → Searching shape firsts at left (set marks m true) (order ++ m ∷ [])
  met-new at m left marks order less new s = record {
    sized = length-set marks m true ∙ s.sized;
    within = all-last (λ n. ltb n (length shape.nodes)) m order s.within (lt-ltb m (length shape.nodes) less);
    once = no_double-last m order s.once new;
    marked = λ n below. by_marked n (eqb m n) refl below;
    reached = λ i n at. by_reached i n (get-last order m i n at);
    next = λ n h. let before = s.next n (or-right (eqb m n) _ h) in (omega (arith, before.0, longer), before.1);
    begun = λ n h. longer_has n (s.begun n h);
    followed = λ i x e below at is. by_followed i x e below is (get-last order m i e.from at);
  }
    where
      here : (at ≤ length order) × (has (onward_times at shape.edges firsts) m ≡ true)
      here = s.next m (or-left (eqb m m) _ (eq-eqb m m refl))

      longer : length (order ++ m ∷ []) ≡ length order + 1
      longer = length-append order (m ∷ [])

      by_marked : (n : ℕ) (b : Bool) → eqb m n ≡ b → n < length shape.nodes → get_or (set marks m true) n false ≡ has (order ++ m ∷ []) n
      by_marked n true e below =
          let same : m ≡ n = eqb-true m n e in
          let room : m < length marks = omega (arith, less, s.sized) in
          subst (λ x. get_or (set marks m true) x false ≡ has (order ++ m ∷ []) x) same (get_or-set_same marks m true false room ∙ sym (has-last m order))
      by_marked n false e below =
          let ne : n ≡ m → ⊥ = λ q. (let clash : true ≡ false = sym (eq-eqb m n (sym q)) ∙ e in absurd cc) in
          get_or-set_other marks m n true false ne ∙ s.marked n below ∙ sym (has-other-last m n order e)

      by_reached : (i n : ℕ) → (slice_get order i ≡ Some n) ⊎ ((i ≡ length order) × (m ≡ n)) → has (onward_times i shape.edges firsts) n ≡ true
      by_reached i n (inl q) = s.reached i n q
      by_reached i n (inr q) = subst (λ x. has (onward_times i shape.edges firsts) x ≡ true) q.1 (times-keep (i - at) at i shape.edges firsts m (omega (arith, q.0, here.0)) here.1)

      longer_has : (n : ℕ) → (has order n || (eqb m n || has left n)) ≡ true → (has (order ++ m ∷ []) n || has left n) ≡ true
      longer_has n h = by (has order n) (eqb m n) refl refl h
        where
          by : (b c : Bool) → has order n ≡ b → eqb m n ≡ c → (b || (c || has left n)) ≡ true → (has (order ++ m ∷ []) n || has left n) ≡ true
          by true c p e q = or-left (has (order ++ m ∷ []) n) _ (has-before-last m n order p)
          by false true p e q = let same : m ≡ n = eqb-true m n e in or-left (has (order ++ m ∷ []) n) _ (subst (λ x. has (order ++ m ∷ []) x ≡ true) same (has-last m order))
          by false false p e q = or-right (has (order ++ m ∷ []) n) _ q

      by_followed : (i x : ℕ) (e : Edge) → i < at → slice_get shape.edges x ≡ Some e → (slice_get order i ≡ Some e.from) ⊎ ((i ≡ length order) × (m ≡ e.from)) → (has (order ++ m ∷ []) e.to || has left e.to) ≡ true
      by_followed i x e below is (inl q) = longer_has e.to (s.followed i x e below q is)
      by_followed i x e below is (inr q) = absurd (omega (arith, below, q.0, here.0))

  met-step : (at m : ℕ) (left : List ℕ) (s : List Bool × List ℕ) → m < length shape.nodes → Searching shape firsts at (m ∷ left) s.0 s.1 → Searching shape firsts at left (met_once m s).0 (met_once m s).1
  met-step at m left s less h = by (get_or s.0 m false) (h.marked m less)
    where
      by : (b : Bool) → b ≡ has s.1 m → Searching shape firsts at left (cond b s (set s.0 m true, s.1 ++ m ∷ [])).0 (cond b s (set s.0 m true, s.1 ++ m ∷ [])).1
      by true e = met-before at m left s.0 s.1 (sym e) h
      by false e = met-new at m left s.0 s.1 less (sym e) h

  pub met-all : (at : ℕ) (left : List ℕ) (s : List Bool × List ℕ) → list_all (λ n. ltb n (length shape.nodes)) left ≡ true → Searching shape firsts at left s.0 s.1 → Searching shape firsts at [] (met left s).0 (met left s).1
  met-all at [] s a h = h
  met-all at (m ∷ left) s a h = met-all at left (met_once m s) (and_right (ltb m (length shape.nodes)) _ a) (met-step at m left s (ltb-true m (length shape.nodes) (and_left (ltb m (length shape.nodes)) _ a)) h)

  -- the next node's edges are to be followed
  pub next-looked : (at n : ℕ) (marks : List Bool) (order : List ℕ) → slice_get order at ≡ Some n → Searching shape firsts at [] marks order → Searching shape firsts (at + 1) (targets shape.edges n) marks order
  next-looked at n marks order there s = record {
    sized = s.sized;
    within = s.within;
    once = s.once;
    marked = s.marked;
    reached = s.reached;
    next = λ k h. (omega (arith, get-less order at n there), by_next k (targets-edge shape.edges n k h));
    begun = λ k h. or-left (has order k) _ (or-none (has order k) (s.begun k h));
    followed = λ i x e below is edge. by_followed i x e (ltb i at) refl below is edge;
  }
    where
      by_next : (k : ℕ) → (x : ℕ) × (e : Edge) × (slice_get shape.edges x ≡ Some e) × (e.from ≡ n) × (e.to ≡ k) → has (onward_times (at + 1) shape.edges firsts) k ≡ true
      by_next k l =
          let from : has (onward_times at shape.edges firsts) l.1.from ≡ true = subst (λ m. has (onward_times at shape.edges firsts) m ≡ true) (sym l.3) (s.reached at n there) in
          let to : has (onward shape.edges (onward_times at shape.edges firsts)) l.1.to ≡ true = onward-leads shape.edges (onward_times at shape.edges firsts) l.0 l.1 l.2 from in
          ap (λ (ns : List ℕ). has ns k) (times-more at shape.edges firsts) ∙ subst (λ m. has (onward shape.edges (onward_times at shape.edges firsts)) m ≡ true) l.4 to

      by_followed : (i x : ℕ) (e : Edge) (b : Bool) → ltb i at ≡ b → i < at + 1 → slice_get order i ≡ Some e.from → slice_get shape.edges x ≡ Some e → (has order e.to || has (targets shape.edges n) e.to) ≡ true
      by_followed i x e true q below is edge = or-left (has order e.to) _ (or-none (has order e.to) (s.followed i x e (ltb-true i at q) is edge))
      by_followed i x e false q below is edge =
          let last : i ≡ at = omega (arith, below, above) in
          let both : Some n ≡ Some e.from = sym there ∙ ap (slice_get order) (sym last) ∙ is in
          let same : n ≡ e.from = cc in
          or-right (has order e.to) _ (subst (λ k. has (targets shape.edges k) e.to ≡ true) (sym same) (targets-has shape.edges x e edge))
        where
          above : at ≤ i
          above = ltb-false i at q

  -- ---- the end

  closed-onward : (order : List ℕ) (es : List Edge) (ns : List ℕ) → ((x : ℕ) (e : Edge) → slice_get es x ≡ Some e → has order e.from ≡ true → has order e.to ≡ true) → ((y : ℕ) → has ns y ≡ true → has order y ≡ true) → (y : ℕ) → has (onward es ns) y ≡ true → has order y ≡ true
  closed-onward order [] ns closed h y q = h y q
  closed-onward order (e ∷ es) ns closed h y q = closed-onward order es (cond (has ns e.from) (with_number e.to ns) ns) (λ x. closed (suc x)) (by (has ns e.from) refl) y q
    where
      by : (b : Bool) → has ns e.from ≡ b → (y : ℕ) → has (cond b (with_number e.to ns) ns) y ≡ true → has order y ≡ true
      by false k y q = h y q
      by true k y q = at (eqb e.to y) refl (sym (with-has e.to y ns) ∙ q)
        where
          at : (c : Bool) → eqb e.to y ≡ c → (c || has ns y) ≡ true → has order y ≡ true
          at true l r = let same : e.to ≡ y = eqb-true e.to y l in subst (λ x. has order x ≡ true) same (closed 0 e refl (h e.from k))
          at false l r = h y r

  closed-times : (order : List ℕ) (k : ℕ) (ns : List ℕ) → ((x : ℕ) (e : Edge) → slice_get shape.edges x ≡ Some e → has order e.from ≡ true → has order e.to ≡ true) → ((y : ℕ) → has ns y ≡ true → has order y ≡ true) → (y : ℕ) → has (onward_times k shape.edges ns) y ≡ true → has order y ≡ true
  closed-times order zero ns closed h y q = h y q
  closed-times order (suc k) ns closed h y q = closed-times order k (onward shape.edges ns) closed (closed-onward order shape.edges ns closed h) y q

  -- no more nodes are met than there are
  pub few-met : (at : ℕ) (left : List ℕ) (marks : List Bool) (order : List ℕ) → Searching shape firsts at left marks order → length order ≤ length shape.nodes
  few-met at left marks order s = few-distinct (length shape.nodes) order s.once s.within

  pub search-ends : (at : ℕ) (marks : List Bool) (order : List ℕ) → length order ≤ at → Searching shape firsts at [] marks order → AreMarks (length shape.nodes) (has (onward_times (length shape.nodes) shape.edges firsts)) marks
  search-ends at marks order past s = (s.sized, λ n less. s.marked n less ∙ both (has order n) (has (onward_times (length shape.nodes) shape.edges firsts) n) (there n) (back n))
    where
      both : (a b : Bool) → (a ≡ true → b ≡ true) → (b ≡ true → a ≡ true) → a ≡ b
      both true b f g = sym (f refl)
      both false true f g = g refl
      both false false f g = refl

      there : (n : ℕ) → has order n ≡ true → has (onward_times (length shape.nodes) shape.edges firsts) n ≡ true
      there n h =
          let place = has-place order n h in
          let below : place.0 < length order = get-less order place.0 n place.1 in
          let few : length order ≤ length shape.nodes = few-met at [] marks order s in
          times-keep (length shape.nodes - place.0) place.0 (length shape.nodes) shape.edges firsts n (omega (arith, below, few)) (s.reached place.0 n place.1)

      back : (n : ℕ) → has (onward_times (length shape.nodes) shape.edges firsts) n ≡ true → has order n ≡ true
      back n h = closed-times order (length shape.nodes) firsts closed (λ y q. or-none (has order y) (s.begun y q)) n h
        where
          closed : (x : ℕ) (e : Edge) → slice_get shape.edges x ≡ Some e → has order e.from ≡ true → has order e.to ≡ true
          closed x e edge q =
              let place = has-place order e.from q in
              let below : place.0 < length order = get-less order place.0 e.from place.1 in
              or-none (has order e.to) (s.followed place.0 x e (omega (arith, below, past)) place.1 edge)

-- ---- the start

pub search-begins : (shape : Shape) (node : ℕ) (marks : List Bool) → length marks ≡ length shape.nodes → ((n : ℕ) → n < length shape.nodes → get_or marks n false ≡ false) → Searching shape (next_of shape.edges node) 0 (targets shape.edges node) marks []
search-begins shape node marks size none = record {
  sized = size;
  within = refl;
  once = refl;
  marked = none;
  reached = λ i n at. (let never : ⊥ = cc in absurd never);
  next = λ n h. (omega arith, sym (targets-next node n shape.edges) ∙ h);
  begun = λ n h. targets-next node n shape.edges ∙ h;
  followed = λ i x e below at is. absurd (omega (arith, below));
}

-- ---- what is read

pub list-read : (shape : Shape) (lists : List (List ℕ)) (node : ℕ) (list : List ℕ) → AreTargets shape lists → node < length shape.nodes → list ≡ get_or lists node list → list ≡ targets shape.edges node
list-read shape lists node list are less read = sym (get_or_from_slice_get lists node list [] (slice_get_read lists (length lists) node list refl (omega (arith, less, are.0)) read)) ∙ are.1 node less

pub list-within : (shape : Shape) (marks : List Bool) (node : ℕ) (list : List ℕ) → list_all (joins_nodes shape) shape.edges ≡ true → length marks ≡ length shape.nodes → list ≡ targets shape.edges node → list_all (λ n. ltb n (length marks)) list ≡ true
list-within shape marks node list joined size is =
    subst (λ (k : ℕ). list_all (λ n. ltb n k) list ≡ true) (sym size)
    (subst (λ (l : List ℕ). list_all (λ n. ltb n (length shape.nodes)) l ≡ true) (sym is) (targets-within shape node shape.edges joined))

pub next-there : (order : List ℕ) (at n : ℕ) → at < length order → n ≡ get_or order at n → slice_get order at ≡ Some n
next-there order at n less read = slice_get_read order (length order) at n refl less read

pub next-within : (shape : Shape) (firsts : List ℕ) (at n : ℕ) (marks : List Bool) (order : List ℕ) → slice_get order at ≡ Some n → Searching shape firsts at [] marks order → n < length shape.nodes
next-within shape firsts at n marks order there s = ltb-true n (length shape.nodes) (all-at (λ n. ltb n (length shape.nodes)) order at n s.within there)

pub mark-read : (size : ℕ) (test : ℕ → Bool) (marks : List Bool) (node : ℕ) (b : Bool) → AreMarks size test marks → node < size → b ≡ get_or marks node b → b ≡ test node
mark-read size test marks node b are less read = sym (get_or_from_slice_get marks node b false (slice_get_read marks (length marks) node b refl (omega (arith, less, are.0)) read)) ∙ are.1 node less

-- the first nodes are met
pub search-start : (shape : Shape) (node count : ℕ) (marks marks' : List Bool) (order order' list : List ℕ) → list_all (joins_nodes shape) shape.edges ≡ true → count ≡ length shape.nodes → marks ≡ replicate count false → order ≡ [] → list ≡ targets shape.edges node
    → (marks', order') ≡ met list (marks, order) → Searching shape (next_of shape.edges node) 0 [] marks' order'
search-start shape node count marks marks' order order' list joined size none empty is same =
    let firsts : List ℕ = next_of shape.edges node in
    let start : Searching shape firsts 0 (targets shape.edges node) (replicate count false) [] = search-begins shape node (replicate count false) (length-replicate count false ∙ size) (λ n less. get_or-replicate count n false false (omega (arith, less, size))) in
    let after : Searching shape firsts 0 [] (met (targets shape.edges node) (replicate count false, [])).0 (met (targets shape.edges node) (replicate count false, [])).1 = met-all shape firsts 0 (targets shape.edges node) (replicate count false, []) (targets-within shape node shape.edges joined) start in
    let whole : (marks', order') ≡ met (targets shape.edges node) (replicate count false, []) =
    same ∙ ap (λ (l : List ℕ). met l (marks, order)) is ∙ ap (λ (m : List Bool). met (targets shape.edges node) (m, order)) none ∙ ap (λ (o : List ℕ). met (targets shape.edges node) (replicate count false, o)) empty in
    subst (λ (p : List Bool × List ℕ). Searching shape firsts 0 [] p.0 p.1) (sym whole) after

-- the nodes behind the next one are met
pub search-step : (shape : Shape) (firsts : List ℕ) (at n : ℕ) (marks marks' : List Bool) (order order' list : List ℕ) → list_all (joins_nodes shape) shape.edges ≡ true → slice_get order at ≡ Some n → list ≡ targets shape.edges n → Searching shape firsts at [] marks order
    → (marks', order') ≡ met list (marks, order) → Searching shape firsts (at + 1) [] marks' order'
search-step shape firsts at n marks marks' order order' list joined there is s same =
    let after : Searching shape firsts (at + 1) [] (met (targets shape.edges n) (marks, order)).0 (met (targets shape.edges n) (marks, order)).1 = met-all shape firsts (at + 1) (targets shape.edges n) (marks, order) (targets-within shape n shape.edges joined) (next-looked shape firsts at n marks order there s) in
    let whole : (marks', order') ≡ met (targets shape.edges n) (marks, order) = same ∙ ap (λ (l : List ℕ). met l (marks, order)) is in
    subst (λ (p : List Bool × List ℕ). Searching shape firsts (at + 1) [] p.0 p.1) (sym whole) after
