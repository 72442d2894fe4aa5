-- The numbers of a caller, one after another.
use Rattle.std.proofs.Common.{◌≡◌, ℕ, suc, ◌+◌, ◌-◌, ◌<◌, ◌%◌, Bool, true, false, cond, List, [], ◌∷◌, ◌++◌, map, nat_eq, refl, sym, ap, ◌∙◌, append_assoc, arith, eq-eqb, eqb-true}
use Rattle.std.specs.List.{filter, range_with_len}
use Rattle.flow_shape.specs.declared.Step.{Step}
use Rattle.flow_gen.specs.Generated.{generated_put}
use Rattle.flow_gen.specs.Texts.{if_own}

-- the numbers from k on, below n, that are the caller's
abbrev pub rest : ℕ → ℕ → ℕ → List ℕ
rest n c k = filter (λ i. nat_eq (i % 4) c) (range_with_len k (n - k))

pub rest_end : (n c k : ℕ) → n - k ≡ 0 → rest n c k ≡ []
rest_end n c k e = rw e refl

more : (k n : ℕ) → k < n → n - k ≡ suc (n - (k + 1))
more k n lt = omega (arith, lt)

pub rest_more : (n c k : ℕ) → k < n → rest n c k ≡ if_own c k ++ rest n c (k + 1)
rest_more n c k lt = rw (more k n lt) (by_test (nat_eq (k % 4) c))
  where
    by_test : (b : Bool) → cond b (k ∷ filter (λ i. nat_eq (i % 4) c) (range_with_len (k + 1) (n - (k + 1)))) (filter (λ i. nat_eq (i % 4) c) (range_with_len (k + 1) (n - (k + 1)))) ≡ cond b (k ∷ []) [] ++ rest n c (k + 1)
    by_test true = refl
    by_test false = refl

pub own_is : (c k : ℕ) → k % 4 ≡ c → if_own c k ≡ k ∷ []
own_is c k e = let same : nat_eq (k % 4) c ≡ true = eq-eqb (k % 4) c e in rw same refl

pub own_not : (c k : ℕ) → (k % 4 ≡ c → ⊥) → if_own c k ≡ []
own_not c k apart = by_test (nat_eq (k % 4) c) refl
  where
    by_test : (b : Bool) → nat_eq (k % 4) c ≡ b → cond b (k ∷ []) [] ≡ []
    by_test true e = absurd (apart (eqb-true (k % 4) c e))
    by_test false e = refl

-- one number more of a script
pub script_more : (n c k : ℕ) (before after goal' : List Step) → k < n → after ≡ before ++ map generated_put (if_own c k) → before ++ map generated_put (rest n c k) ≡ goal' → after ++ map generated_put (rest n c (k + 1)) ≡ goal'
script_more n c k before after goal' lt e h =
    let here : List Step = map generated_put (if_own c k) in
    let later : List Step = map generated_put (rest n c (k + 1)) in
    ap (λ (t : List Step). t ++ later) e ∙ append_assoc before here later ∙ ap (λ (t : List Step). before ++ t) (sym (map_append generated_put (if_own c k) (rest n c (k + 1))) ∙ ap (map generated_put) (sym (rest_more n c k lt))) ∙ h
  where
    map_append : (f : ℕ → Step) (xs ys : List ℕ) → map f (xs ++ ys) ≡ map f xs ++ map f ys
    map_append f [] ys = refl
    map_append f (x ∷ xs) ys = ap (λ (t : List Step). f x ∷ t) (map_append f xs ys)
