-- A name's place on a shelf is that in the list of its names.
use Rattle.std.proofs.Common.{◌≡◌, ℕ, suc, Some, List, [], ◌∷◌, refl, ap, cond}
use Rattle.std.specs.Str.{bytes_eq}
use Rattle.flow_body.specs.Shelves.{first_place}
use Rattle.flow_doc.specs.Fields.{place_from}

pub same_place : (n : ℕ) (name : List ℕ) (names : List (List ℕ)) → first_place n name names ≡ place_from n name names
unfolding place_from
same_place n name [] = refl
same_place n name (x ∷ xs) = ap (λ later. cond (bytes_eq x name) (Some n) later) (same_place (suc n) name xs)
