-- Where the bodies stand on a shelf.
use Rattle.std.proofs.Common.{◌≡◌, ℕ, suc, ◌+◌, ◌<◌, Bool, true, false, cond, Option, Some, None, List, [], ◌∷◌, length, slice_get, codes, refl, sym, ap, subst, ◌∙◌, arith}
use Rattle.std.specs.Prelude.{is_some, option_map, option_and_then, ◌&&◌}
use Rattle.std.specs.Str.{bytes_eq}
use Rattle.std.specs.Cmp.Lexicographic.{bytes_decides}
use Rattle.std.proofs.lemmas.Option.{slice_get_within}
use Rattle.flow_body.specs.Shelves.{first_place}
use Rattle.flow_doc.specs.Fields.{place_from}
use Rattle.flow_report.specs.Sinks.{name_of, text_or_empty}
use Rattle.flow_gen.specs.Generated.{generated, generated_from, has_bodies}

-- what is found at a place has the name
pub found : (from : ℕ) (name : List ℕ) (names : List (List ℕ)) (k : ℕ) → place_from from name names ≡ Some k → (j : ℕ) × (k ≡ from + j) × (slice_get names j ≡ Some name)
unfolding place_from
found from name [] k e = cc
found from name (x ∷ xs) k e = by_test (bytes_eq x name) refl (λ h. found (suc from) name xs k h) e
  where
    by_test : (b : Bool) → bytes_eq x name ≡ b → (place_from (suc from) name xs ≡ Some k → (j : ℕ) × (k ≡ suc from + j) × (slice_get xs j ≡ Some name)) → cond b (Some from) (place_from (suc from) name xs) ≡ Some k → (j : ℕ) × (k ≡ from + j) × (slice_get (x ∷ xs) j ≡ Some name)
    by_test true same later e = let here : from ≡ k = cc in (0, omega (arith, here), ap Some ((bytes_decides x name).0 same))
    by_test false apart later e = let r = later e in (suc r.0, omega (arith, r.1), r.2)

pub found_name : (name : List ℕ) (names : List (List ℕ)) (k : ℕ) → place_from 0 name names ≡ Some k → name_of names k ≡ name
found_name name names k e =
    let r = found 0 name names k e in
    let at : r.0 ≡ k = omega (arith, r.1) in
    let there : slice_get names k ≡ Some name = subst (λ (j : ℕ). slice_get names j ≡ Some name) at r.2 in
    ap text_or_empty there

pub found_below : (name : List ℕ) (names : List (List ℕ)) (k : ℕ) → place_from 0 name names ≡ Some k → k < length names
found_below name names k e =
    let r = found 0 name names k e in
    let low : r.0 < length names = slice_get_within names r.0 name r.2 in
    omega (arith, r.1, low)

-- the document is found where the bodies are
pub doc_is_found : (shelf : List (List ℕ)) (n : ℕ) → has_bodies shelf ≡ true → is_some (generated_from shelf n) ≡ true
doc_is_found shelf n has = by_places (place_from 0 (codes "add") shelf) (place_from 0 (codes "mul") shelf) (place_from 0 (codes "neg") shelf) has
  where
    by_places : (a m g : Option ℕ) → (is_some a && (is_some m && is_some g)) ≡ true → is_some (option_and_then (λ add. option_and_then (λ mul. option_map (λ neg. generated add mul neg n) g) m) a) ≡ true
    by_places (Some a) (Some m) (Some g) has = refl
    by_places None m g has = cc
    by_places (Some a) None g has = cc
    by_places (Some a) (Some m) None has = cc

-- ---- as the shelf finds them

same_place : (n : ℕ) (name : List ℕ) (names : List (List ℕ)) → first_place n name names ≡ place_from n name names
unfolding place_from
same_place n name [] = refl
same_place n name (x ∷ xs) = ap (λ later. cond (bytes_eq x name) (Some n) later) (same_place (suc n) name xs)

module _ (names : List (List ℕ)) (n : ℕ) where
  placed : (name : List ℕ) (o : Option ℕ) → first_place 0 name names ≡ o → place_from 0 name names ≡ o
  placed name o e = sym (same_place 0 name names) ∙ e

  pub none_add : first_place 0 (codes "add") names ≡ None → None ≡ generated_from names n
  none_add a = rw (placed (codes "add") None a) refl

  pub none_mul : (add : ℕ) → first_place 0 (codes "add") names ≡ Some add → first_place 0 (codes "mul") names ≡ None → None ≡ generated_from names n
  none_mul add a m = rw (placed (codes "add") (Some add) a, placed (codes "mul") None m) refl

  pub none_neg : (add mul : ℕ) → first_place 0 (codes "add") names ≡ Some add → first_place 0 (codes "mul") names ≡ Some mul → first_place 0 (codes "neg") names ≡ None → None ≡ generated_from names n
  none_neg add mul a m g = rw (placed (codes "add") (Some add) a, placed (codes "mul") (Some mul) m, placed (codes "neg") None g) refl

  pub all_found : (add mul neg : ℕ) → first_place 0 (codes "add") names ≡ Some add → first_place 0 (codes "mul") names ≡ Some mul → first_place 0 (codes "neg") names ≡ Some neg → Some (generated add mul neg n) ≡ generated_from names n
  all_found add mul neg a m g = rw (placed (codes "add") (Some add) a, placed (codes "mul") (Some mul) m, placed (codes "neg") (Some neg) g) refl
