-- The document that is found fits the shelf.
use Rattle.std.proofs.Common.{◌≡◌, ℕ, ◌<◌, true, nat_lt, Option, Some, None, List, [], ◌∷◌, length, map, codes, refl, subst, arith}
use Rattle.std.specs.Prelude.{option_map, option_and_then}
use Rattle.std.specs.List.{list_all}
use Rattle.flow_shape.specs.declared.Shape.{Shape}
use Rattle.flow_doc.specs.declared.Doc.{Doc}
use Rattle.flow_doc.specs.Fields.{place_from}
use Rattle.flow_doc.specs.Fits.{doc_fits, step_fits}
use Rattle.flow_doc.proofs.OnLiterals.{documents_compute}
use Rattle.flow_gen.specs.Generated.{generated, generated_from, generated_nodes, generated_edges, generated_put, share}
use Rattle.flow_gen.proofs.Places.{found_below}

abbrev shape_of : ℕ → ℕ → ℕ → Shape
shape_of add mul neg = record { nodes = generated_nodes add mul neg; edges = generated_edges }

puts_fit : (add mul neg : ℕ) (ks : List ℕ) → list_all (step_fits 1 (shape_of add mul neg)) (map generated_put ks) ≡ true
unfolding documents_compute
puts_fit add mul neg [] = refl
puts_fit add mul neg (k ∷ ks) = puts_fit add mul neg ks

lt_true : (a b : ℕ) → a < b → nat_lt a b ≡ true
lt_true a b h = grind (arith)

fits_of : (bodies add mul neg n : ℕ) → add < bodies → mul < bodies → neg < bodies → doc_fits bodies (generated add mul neg n) ≡ true
unfolding documents_compute
fits_of bodies add mul neg n a m g =
    rw (lt_true add bodies a, lt_true mul bodies m, lt_true neg bodies g, puts_fit add mul neg (share n 0), puts_fit add mul neg (share n 1), puts_fit add mul neg (share n 2), puts_fit add mul neg (share n 3)) refl

-- what is found fits
pub found_fits : (shelf : List (List ℕ)) (n : ℕ) (doc : Doc) → generated_from shelf n ≡ Some doc → doc_fits (length shelf) doc ≡ true
found_fits shelf n doc e = by_places (place_from 0 (codes "add") shelf) (place_from 0 (codes "mul") shelf) (place_from 0 (codes "neg") shelf) refl refl refl e
  where
    by_places : (a m g : Option ℕ) → place_from 0 (codes "add") shelf ≡ a → place_from 0 (codes "mul") shelf ≡ m → place_from 0 (codes "neg") shelf ≡ g →
        option_and_then (λ add. option_and_then (λ mul. option_map (λ neg. generated add mul neg n) g) m) a ≡ Some doc → doc_fits (length shelf) doc ≡ true
    by_places (Some a) (Some m) (Some g) p q r e =
        let same : generated a m g n ≡ doc = cc in
        subst (λ (d : Doc). doc_fits (length shelf) d ≡ true) same (fits_of (length shelf) a m g n (found_below (codes "add") shelf a p) (found_below (codes "mul") shelf m q) (found_below (codes "neg") shelf g r))
    by_places None m g p q r e = cc
    by_places (Some a) None g p q r e = cc
    by_places (Some a) (Some m) None p q r e = cc

-- what is found, by the numbers of its bodies
pub found_is : (shelf : List (List ℕ)) (n : ℕ) (doc : Doc) → generated_from shelf n ≡ Some doc → (add : ℕ) × (mul : ℕ) × (neg : ℕ) × (doc ≡ generated add mul neg n)
found_is shelf n doc e = by_places (place_from 0 (codes "add") shelf) (place_from 0 (codes "mul") shelf) (place_from 0 (codes "neg") shelf) e
  where
    by_places : (a m g : Option ℕ) → option_and_then (λ add. option_and_then (λ mul. option_map (λ neg. generated add mul neg n) g) m) a ≡ Some doc → (add : ℕ) × (mul : ℕ) × (neg : ℕ) × (doc ≡ generated add mul neg n)
    by_places (Some a) (Some m) (Some g) e = let same : doc ≡ generated a m g n = cc in (a, m, g, same)
    by_places None m g e = cc
    by_places (Some a) None g e = cc
    by_places (Some a) (Some m) None e = cc
