-- The nodes of a run at its start.
use Rattle.std.proofs.Common.{◌≡◌, ℕ, suc, ◌+◌, false, Option, Some, None, List, [], ◌∷◌, ◌++◌, length, drop, map, replicate, refl, sym, ap, ◌∙◌, arith, append_assoc}
use Rattle.std.specs.Prelude.{slice_get}
use Rattle.flow_item.specs.Lists.{map_places}
use Rattle.flow_shape.specs.declared.Kind.{Kind}
use Rattle.flow_shape.specs.declared.Kind.TheVariants as K
use Rattle.flow_shape.specs.declared.Shape.{Shape}
use Rattle.flow_machine.specs.State.{PlacedNode}
use Rattle.flow_machine.specs.State.{start_part}
use Rattle.flow_machine.specs.Wishes.{is_ready}
use Rattle.std.proofs.lemmas.Option.{same_Some}
use Rattle.flow_node.specs.Readied.{is_waiting, start_of}
use Rattle.flow_nodes.specs.Rows.{node_at, nodes_of}
use Rattle.flow_node.proofs.WireLemmas.{drop-at}

-- one more node made
pub nodes-more : (shape : Shape) (n : ℕ) (k : Kind) (v : PlacedNode) (old all : List PlacedNode) → slice_get shape.nodes n ≡ Some k → v ≡ node_at shape [] n k
    → old ++ map_places (node_at shape []) n (drop n shape.nodes) ≡ all → (old ++ v ∷ []) ++ map_places (node_at shape []) (n + 1) (drop (n + 1) shape.nodes) ≡ all
nodes-more shape n k v old all at is before =
    let next : n + 1 ≡ suc n = omega arith in
    rw next (append_assoc old (v ∷ []) (map_places (node_at shape []) (suc n) (drop (suc n) shape.nodes))
    ∙ ap (λ w. old ++ w ∷ map_places (node_at shape []) (suc n) (drop (suc n) shape.nodes)) is
    ∙ ap (λ ks. old ++ map_places (node_at shape []) n ks) (sym (drop-at shape.nodes n k at))
    ∙ before)

-- no node waits at the start
start-ready : (k : Kind) → is_ready (start_part k) ≡ false
start-ready (K.Queue c) = refl
start-ready k = refl

start-quiet : (shape : Shape) (n : ℕ) (ks : List Kind) → map is_waiting (map_places (node_at shape []) n ks) ≡ replicate (length ks) false
start-quiet shape n [] = refl
start-quiet shape n (k ∷ ks) =
    let front : is_waiting (node_at shape [] n k) ≡ false = start-ready k in
    let rest = start-quiet shape (suc n) ks in
    cc

pub flags-at-start : (shape : Shape) (vs : List PlacedNode) → vs ≡ nodes_of shape [] → replicate (length vs) false ≡ map is_waiting vs
flags-at-start shape vs is = rw is (ap (λ n. replicate n false) (length-places 0 shape.nodes) ∙ sym (start-quiet shape 0 shape.nodes))
  where
    length-places : (n : ℕ) (ks : List Kind) → length (map_places (node_at shape []) n ks) ≡ length ks
    length-places n [] = refl
    length-places n (k ∷ ks) = ap suc (length-places (suc n) ks)

-- one more node made, as the code makes it
pub start-more : (shape : Shape) (n : ℕ) (v : PlacedNode) (old all : List PlacedNode) → start_of shape n ≡ Some v
    → old ++ map_places (node_at shape []) n (drop n shape.nodes) ≡ all → (old ++ v ∷ []) ++ map_places (node_at shape []) (n + 1) (drop (n + 1) shape.nodes) ≡ all
start-more shape n v old all is before = by_kind (slice_get shape.nodes n) refl
  where
    by_kind : (o : Option Kind) → slice_get shape.nodes n ≡ o → (old ++ v ∷ []) ++ map_places (node_at shape []) (n + 1) (drop (n + 1) shape.nodes) ≡ all
    by_kind None at = let never : ◌≡◌ {A = Option PlacedNode} None (Some v) = rw at at is in cc
    by_kind (Some k) at = let same : ◌≡◌ {A = Option PlacedNode} (Some (node_at shape [] n k)) (Some v) = rw at at is in nodes-more shape n k v old all at (sym (same_Some _ _ same)) before
