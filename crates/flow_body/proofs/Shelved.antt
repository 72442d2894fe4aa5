-- The built-in bodies, by their names.
use Rattle.std.proofs.Common.{◌≡◌, ℕ, List, [], ◌∷◌, ◌++◌, map, ap, refl}
use Rattle.flow_body.specs.Builtin.{Body, with_names, builtin_bodies}

pub all_named : (bodies : List Body) → bodies ≡ map (λ b. b.1) builtin_bodies → with_names (map (λ b. b.0) builtin_bodies) bodies ≡ builtin_bodies
all_named bodies h = ap (with_names (map (λ b. b.0) builtin_bodies)) h

-- ten put one after the other
pub all_put : {A : Type 0} (m0 m1 m2 m3 m4 m5 m6 m7 m8 m9 m10 : List A) (x1 x2 x3 x4 x5 x6 x7 x8 x9 x10 : A) → m0 ≡ [] → m1 ≡ m0 ++ x1 ∷ [] → m2 ≡ m1 ++ x2 ∷ [] → m3 ≡ m2 ++ x3 ∷ [] → m4 ≡ m3 ++ x4 ∷ [] → m5 ≡ m4 ++ x5 ∷ [] → m6 ≡ m5 ++ x6 ∷ [] → m7 ≡ m6 ++ x7 ∷ [] → m8 ≡ m7 ++ x8 ∷ [] → m9 ≡ m8 ++ x9 ∷ [] → m10 ≡ m9 ++ x10 ∷ [] → m10 ≡ x1 ∷ x2 ∷ x3 ∷ x4 ∷ x5 ∷ x6 ∷ x7 ∷ x8 ∷ x9 ∷ x10 ∷ []
all_put m0 m1 m2 m3 m4 m5 m6 m7 m8 m9 m10 x1 x2 x3 x4 x5 x6 x7 x8 x9 x10 h0 h1 h2 h3 h4 h5 h6 h7 h8 h9 h10 = rw (h10, h9, h8, h7, h6, h5, h4, h3, h2, h1, h0) refl
