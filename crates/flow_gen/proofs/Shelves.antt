-- The shelf of the built-in bodies has those of generated documents.
use Rattle.std.proofs.Common.{◌≡◌, ℕ, true, List, [], ◌∷◌, map, refl, ap, ◌∙◌, subst, sym}
use Rattle.flow_doc.proofs.OnLiterals.{documents_compute}
use Rattle.flow_body.specs.Builtin.{Body, builtin_bodies, with_names}
use Rattle.flow_gen.specs.Generated.{has_bodies}

builtin_has : has_bodies (map (λ (b : List ℕ × Body). b.0) builtin_bodies) ≡ true
unfolding documents_compute
builtin_has = refl

names_of : {X : Type 0} (name : X → List ℕ) (body : X → Body) (xs : List X) (row : List (List ℕ × Body)) → map (λ x. (name x, body x)) xs ≡ row → map name xs ≡ map (λ (b : List ℕ × Body). b.0) row
names_of name body [] [] e = refl
names_of name body [] (b ∷ row) e = cc
names_of name body (x ∷ xs) [] e = cc
names_of name body (x ∷ xs) (b ∷ row) e =
    let first : (name x, body x) ≡ b = cc in
    let later : map (λ y. (name y, body y)) xs ≡ row = cc in
    ap (λ (p : List ℕ × Body). p.0 ∷ map name xs) first ∙ ap (λ ns. b.0 ∷ ns) (names_of name body xs row later)

pub shelf_has : {X : Type 0} (name : X → List ℕ) (body : X → Body) (xs : List X) (b0 b1 b2 b3 b4 b5 b6 b7 b8 b9 : Body) →
    map (λ x. (name x, body x)) xs ≡ with_names (map (λ (b : List ℕ × Body). b.0) builtin_bodies) (b0 ∷ b1 ∷ b2 ∷ b3 ∷ b4 ∷ b5 ∷ b6 ∷ b7 ∷ b8 ∷ b9 ∷ []) → has_bodies (map name xs) ≡ true
shelf_has name body xs b0 b1 b2 b3 b4 b5 b6 b7 b8 b9 e = subst (λ (ns : List (List ℕ)). has_bodies ns ≡ true) (sym (names_of name body xs _ e)) builtin_has
