-- The least node that fails a test, node by node.
use Rattle.std.proofs.Common.{◌≡◌, ℕ, zero, suc, ◌+◌, Bool, true, false, cond, Option, Some, List, [], ◌∷◌, drop, ap, subst, ◌∙◌, arith}
use Rattle.std.specs.Prelude.{slice_get}
use Rattle.flow_item.specs.Lists.{first}
use Rattle.flow_shape.specs.declared.Kind.{Kind}
use Rattle.flow_mean.specs.Determinate.{nodes_where}

pub drop-at : {X : Type 0} (xs : List X) (i : ℕ) (x : X) → slice_get xs i ≡ Some x → drop i xs ≡ x ∷ drop (i + 1) xs
drop-at [] i x h = cc
drop-at {X} (y ∷ ys) zero x h = let same : y ≡ x = cc in ap (λ (z : X). z ∷ ys) same
drop-at (y ∷ ys) (suc i) x h = drop-at ys i x h ∙ ap (λ (l : List _). x ∷ l) (ap (λ n. drop n (y ∷ ys)) plus)
  where
    plus : suc (i + 1) ≡ suc i + 1
    plus = omega arith

module _ (bad : ℕ → Kind → Bool) (ks : List Kind) (i : ℕ) (k : Kind) (x : Option ℕ) (at : slice_get ks i ≡ Some k) (inv : first (nodes_where bad i (drop i ks)) ≡ x) where
  opened : first (cond (bad i k) (i ∷ nodes_where bad (suc i) (drop (i + 1) ks)) (nodes_where bad (suc i) (drop (i + 1) ks))) ≡ x
  opened = subst (λ (l : List Kind). first (nodes_where bad i l) ≡ x) (drop-at ks i k at) inv

  pub least-here : bad i k ≡ true → Some i ≡ x
  least-here h = subst (λ b. first (cond b (i ∷ nodes_where bad (suc i) (drop (i + 1) ks)) (nodes_where bad (suc i) (drop (i + 1) ks))) ≡ x) h opened

  pub least-on : bad i k ≡ false → first (nodes_where bad (i + 1) (drop (i + 1) ks)) ≡ x
  least-on h =
      let later : first (nodes_where bad (suc i) (drop (i + 1) ks)) ≡ x = subst (λ b. first (cond b (i ∷ nodes_where bad (suc i) (drop (i + 1) ks)) (nodes_where bad (suc i) (drop (i + 1) ks))) ≡ x) h opened in
      subst (λ n. first (nodes_where bad n (drop (i + 1) ks)) ≡ x) plus later
    where
      plus : suc i ≡ i + 1
      plus = omega arith
