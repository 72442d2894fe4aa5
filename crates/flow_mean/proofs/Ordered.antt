-- Along an order in which each edge goes forwards.
use Rattle.std.proofs.Common.{◌≡◌, ℕ, zero, suc, ◌+◌, ◌≤◌, ◌<◌, Bool, true, false, not, cond, ◌&&◌, ◌||◌, eqb, ltb, Some, List, [], ◌∷◌, ◌++◌, length, get_or, take, refl, sym, ap, subst, ◌∙◌, arith, eq-eqb}
use Rattle.std.proofs.lemmas.Bool.{eqb-true, ltb-true, lt-ltb}
use Rattle.std.specs.Prelude.{slice_get}
use Rattle.std.specs.List.{list_all}
use Rattle.flow_item.specs.Lists.{has}
use Rattle.flow_item.specs.Pairs.{Pair}
use Rattle.flow_item.proofs.Tests.{and_left, and_right}
use Rattle.flow_shape.specs.declared.Edge.{Edge}
use Rattle.flow_shape.specs.declared.Kind.{Kind}
use Rattle.flow_shape.specs.declared.Shape.{Shape}
use Rattle.flow_shape.specs.Rules.{each_below}
use Rattle.flow_shape.specs.Orders.{stands_before, has_no_double, is_order}
use Rattle.flow_shape.proofs.Sorting.{all-at}
use Rattle.flow_machine.specs.Bodies.{Meanings}
use Rattle.flow_doc.specs.declared.Doc.{Doc}
use Rattle.flow_mean.specs.Passing.{Awaits}

place-has : (ns : List ℕ) (i b : ℕ) → slice_get ns i ≡ Some b → has ns b ≡ true
place-has [] i b h = cc
place-has (n ∷ ns) zero b h = let same : n ≡ b = cc in rw (eq-eqb n b same)
place-has (n ∷ ns) (suc i) b h = rw (place-has ns i b h) (or_true (eqb n b))
  where
    or_true : (c : Bool) → (c || true) ≡ true
    or_true true = refl
    or_true false = refl

-- what stands before the number at a place is among those before the place
before-place : (a b i : ℕ) (ns : List ℕ) → stands_before a b ns ≡ true → slice_get ns i ≡ Some b → has (take i ns) a ≡ true
before-place a b i [] h at = cc
before-place a b zero (n ∷ ns) h at =
    let same : n ≡ b = cc in
    let none : cond (eqb n b) false (eqb n a || stands_before a b ns) ≡ false = rw (eq-eqb n b same) refl in
    let clash : true ≡ false = sym h ∙ none in
    cc
before-place a b (suc i) (n ∷ ns) h at = by (eqb n b) (eqb n a) h (λ k. before-place a b i ns k at)
  where
    by : (c d : Bool) → cond c false (d || stands_before a b ns) ≡ true → (stands_before a b ns ≡ true → has (take i ns) a ≡ true) → (d || has (take i ns) a) ≡ true
    by true d k later = cc
    by false true k later = refl
    by false false k later = later k

new-place : (b i : ℕ) (ns : List ℕ) → has_no_double ns ≡ true → slice_get ns i ≡ Some b → has (take i ns) b ≡ false
new-place b i [] h at = cc
new-place b zero (n ∷ ns) h at = refl
new-place b (suc i) (n ∷ ns) h at = by (eqb n b) refl (new-place b i ns (and_right (not (has ns n)) (has_no_double ns) h) at)
  where
    by : (c : Bool) → eqb n b ≡ c → has (take i ns) b ≡ false → (c || has (take i ns) b) ≡ false
    by true e later =
        let same : n ≡ b = eqb-true n b e in
        let there : has ns n ≡ true = rw (← same) at (place-has ns i b at) in
        let none : not (has ns n) ≡ true = and_left (not (has ns n)) (has_no_double ns) h in
        let clash : not true ≡ true = rw there at none in
        cc
    by false e later = later

below-at : (test : ℕ → Bool) (n i : ℕ) → each_below test n ≡ true → i < n → test i ≡ true
below-at test zero i h less = absurd (omega (arith, less))
below-at test (suc n) i h less = by (eqb i n) refl (below-at test n i (and_left (each_below test n) (test n) h))
  where
    by : (c : Bool) → eqb i n ≡ c → (i < n → test i ≡ true) → test i ≡ true
    by true e later = let same : i ≡ n = eqb-true i n e in rw same (and_right (each_below test n) (test n) h)
    by false e later = later (omega (arith, less, differs))
      where
        differs : i ≡ n → ⊥
        differs q = let clash : true ≡ false = sym (eq-eqb i n q) ∙ e in cc

module _ (shape : Shape) (order : List ℕ) (is : is_order shape order ≡ true) where
  whole : each_below (has order) (length shape.nodes) ≡ true
  whole = and_left _ _ (and_left _ _ (and_left _ _ is))

  inside : list_all (λ n. ltb n (length shape.nodes)) order ≡ true
  inside = and_right _ _ (and_left _ _ (and_left _ _ is))

  once : has_no_double order ≡ true
  once = and_right _ _ (and_left _ _ is)

  forwards : list_all (λ (e : Edge). stands_before e.from e.to order) shape.edges ≡ true
  forwards = and_right _ _ is

  pub order-awaits : (i node : ℕ) → slice_get order i ≡ Some node → Awaits shape (take i order) node
  order-awaits i node at x e there to =
      before-place e.from node i order (subst (λ b. stands_before e.from b order ≡ true) to (all-at (λ (e : Edge). stands_before e.from e.to order) shape.edges x e forwards there)) at

  pub order-new : (i node : ℕ) → slice_get order i ≡ Some node → has (take i order) node ≡ false
  order-new i node at = new-place node i order once at

  pub order-within : (i node : ℕ) → slice_get order i ≡ Some node → node < length shape.nodes
  order-within i node at = ltb-true _ _ (all-at (λ n. ltb n (length shape.nodes)) order i node inside at)

  pub order-whole : (n : ℕ) → n < length shape.nodes → has order n ≡ true
  order-whole n less = below-at (has order) (length shape.nodes) n whole less
