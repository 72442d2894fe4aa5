-- A list without the first member that passes a test.
use Rattle.std.specs.Option.{IsSome, OnSome}
use Rattle.std.proofs.Common.{◌≡◌, ℕ, zero, suc, ◌<◌, ◌≤◌, Bool, true, false, ◌||◌, cond, Option, Some, None, List, [], ◌∷◌, length, take, get_or, refl, sym, ap, ◌∙◌, arith}
use Rattle.std.specs.List.{list_any, remove}
use Rattle.flow_item.specs.Lists.{drop_first}
use Rattle.flow_store.specs.Firsts.{IsFirst}

module _ {X : Type 0} where
  drop_first-at : (p : X → Bool) (xs : List X) (k : ℕ) → k < length xs → list_any p (take k xs) ≡ false → ((d : X) → p (get_or xs k d) ≡ true) → remove xs k ≡ drop_first p xs
  drop_first-at p [] k h none here = absurd (omega (arith, h))
  drop_first-at p (x ∷ xs) zero h none here = rw (here x)
  drop_first-at p (x ∷ xs) (suc k) h none here = by_first (p x) none (λ n. drop_first-at p xs k (omega arith) n here)
    where
      by_first : (b : Bool) → (b || list_any p (take k xs)) ≡ false → (list_any p (take k xs) ≡ false → remove xs k ≡ drop_first p xs) → x ∷ remove xs k ≡ cond b xs (x ∷ drop_first p xs)
      by_first true none later = cc
      by_first false none later = ap (λ zs. x ∷ zs) (later none)

  -- without the member at the first place that passes
  pub remove-first : (p : X → Bool) (xs : List X) (k : ℕ) → IsFirst p xs k → remove xs k ≡ drop_first p xs
  remove-first p xs k is = drop_first-at p xs k is.within is.none_before is.here

  pub first-within : (p : X → Bool) (xs : List X) (k : ℕ) → IsFirst p xs k → k < length xs
  first-within p xs k is = is.within

  take-all : (xs : List X) → take (length xs) xs ≡ xs
  take-all [] = refl
  take-all (x ∷ xs) = ap (λ zs. x ∷ zs) (take-all xs)

  -- none before the end passes, so none does
  pub none-at_all : (p : X → Bool) (xs : List X) (k : ℕ) → length xs ≤ k → k ≤ length xs → list_any p (take k xs) ≡ false → list_any p xs ≡ false
  none-at_all p xs k low high none =
      let same : k ≡ length xs = omega arith in
      sym (ap (list_any p) (ap (λ n. take n xs) same ∙ take-all xs)) ∙ none

-- what is said of a value that is there
pub some-of : {T : Type 0} (o : Option T) (P : Type 0) → IsSome o → OnSome o P → P
some-of None P h k = let never : ⊥ = cc in absurd never
some-of (Some x) P h k = k
