-- How many the built-in bodies on their shelf are.
use Rattle.std.proofs.Common.{◌≡◌, ◌∙◌, ℕ, List, [], ◌∷◌, map, length, ap, sym}
use Rattle.std.proofs.lemmas.List.{length-map}
use Rattle.flow_body.specs.Builtin.{Body, builtin_bodies, with_names}

pub shelf_length : {X : Type 0} (name : X → List ℕ) (body : X → Body) (xs : List X) (b0 b1 b2 b3 b4 b5 b6 b7 b8 b9 : Body) →
    map (λ x. (name x, body x)) xs ≡ with_names (map (λ (b : List ℕ × Body). b.0) builtin_bodies) (b0 ∷ b1 ∷ b2 ∷ b3 ∷ b4 ∷ b5 ∷ b6 ∷ b7 ∷ b8 ∷ b9 ∷ []) → length xs ≡ 10
shelf_length name body xs b0 b1 b2 b3 b4 b5 b6 b7 b8 b9 e = sym (length-map xs (λ x. (name x, body x))) ∙ ap length e
