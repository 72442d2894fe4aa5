-- Edges out of nodes, counted, and into ports.
use Rattle.std.proofs.Common.{◌≡◌, ℕ, zero, suc, ◌+◌, ◌≤◌, ◌<◌, Bool, true, false, cond, ◌&&◌, eqb, ltb, Some, List, [], ◌∷◌, ◌++◌, length, get_or, drop, refl, sym, ap, subst, ◌∙◌, arith}
use Rattle.std.proofs.lemmas.Bool.{ltb-true}
use Rattle.std.proofs.lemmas.Option.{slice_get-get_or, slice_get_read, get_or_from_slice_get}
use Rattle.std.specs.Prelude.{slice_get, map, filter}
use Rattle.std.specs.List.{list_all, flat_map}
use Rattle.flow_item.specs.Lists.{places}
use Rattle.flow_item.proofs.Tests.{and_left}
use Rattle.flow_shape.specs.declared.Edge.{Edge}
use Rattle.flow_shape.specs.declared.Shape.{Shape}
use Rattle.flow_shape.specs.Rules.{joins_nodes}
use Rattle.flow_shape.specs.Wiring.{edges_leaving, edges_into}
use Rattle.flow_shape.proofs.Sorting.{all-at}
use Rattle.flow_mean.specs.Judging.{leaving}
use Rattle.flow_mean.specs.Passing.{source_of}

leaving-places : (n x : ℕ) (es : List Edge) → leaving es n ≡ length (places (λ (e : Edge). eqb e.from n) x es)
leaving-places n x [] = refl
leaving-places n x (e ∷ es) = by (eqb e.from n) (leaving-places n (suc x) es)
  where
    by : (b : Bool) → leaving es n ≡ length (places (λ (e : Edge). eqb e.from n) (suc x) es) → cond b (suc (leaving es n)) (leaving es n) ≡ length (cond b (x ∷ places (λ (e : Edge). eqb e.from n) (suc x) es) (places (λ (e : Edge). eqb e.from n) (suc x) es))
    by true h = ap suc h
    by false h = h

pub leaving-count : (shape : Shape) (n : ℕ) → leaving shape.edges n ≡ length (edges_leaving shape n)
leaving-count shape n = leaving-places n 0 shape.edges

leaving-most : (n : ℕ) (es : List Edge) → leaving es n ≤ length es
leaving-most n [] = omega arith
leaving-most n (e ∷ es) = by (eqb e.from n) (leaving-most n es)
  where
    by : (b : Bool) → leaving es n ≤ length es → cond b (suc (leaving es n)) (leaving es n) ≤ suc (length es)
    by true h = omega (arith, h)
    by false h = omega (arith, h)

-- a count that is read for the next edge
pub out-read : (shape : Shape) (items : List Edge) (outs : List ℕ) (i : ℕ) (d : Edge) (c : ℕ) → items ≡ shape.edges → list_all (joins_nodes shape) shape.edges ≡ true → length shape.edges ≤ 4096
    → (length outs ≡ length shape.nodes) × ((n : ℕ) → n < length shape.nodes → get_or outs n 0 + leaving (drop i shape.edges) n ≡ leaving shape.edges n)
    → i < length items → c ≡ get_or outs (get_or items i d).from c → c + 1 ≤ 4097
out-read shape items outs i d c same joined few inv h read =
    let e : Edge = get_or items i d in
    let there : slice_get shape.edges i ≡ Some e = subst (λ (l : List Edge). slice_get l i ≡ Some e) same (slice_get-get_or items i d h) in
    let below : e.from < length shape.nodes = ltb-true _ _ (and_left (ltb e.from (length shape.nodes)) _ (all-at (joins_nodes shape) shape.edges i e joined there)) in
    let count : get_or outs e.from 0 ≡ c = get_or_from_slice_get outs e.from c 0 (slice_get_read outs (length outs) e.from c refl (omega (arith, below, inv.0)) read) in
    let sum = inv.1 e.from below in
    let most : leaving shape.edges e.from ≤ length shape.edges = leaving-most e.from shape.edges in
    omega (arith, count, sum, most, few)

-- the from-nodes of the edges into a port
pub sources-into : (n port : ℕ) (es : List Edge) → flat_map (source_of n port) es ≡ map (λ (e : Edge). e.from) (filter (λ (e : Edge). eqb e.to n && eqb e.port port) es)
sources-into n port [] = refl
sources-into n port (e ∷ es) = by (eqb e.to n && eqb e.port port) (sources-into n port es)
  where
    by : (b : Bool) → flat_map (source_of n port) es ≡ map (λ (e : Edge). e.from) (filter (λ (e : Edge). eqb e.to n && eqb e.port port) es) →
        cond b (e.from ∷ []) [] ++ flat_map (source_of n port) es ≡ map (λ (e : Edge). e.from) (cond b (e ∷ filter (λ (e : Edge). eqb e.to n && eqb e.port port) es) (filter (λ (e : Edge). eqb e.to n && eqb e.port port) es))
    by true h = ap (λ l. e.from ∷ l) h
    by false h = h
