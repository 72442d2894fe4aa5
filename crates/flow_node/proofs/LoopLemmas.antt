-- Loops over a list, at the place that they have come to.
use Rattle.std.proofs.Common.{◌≡◌, ℕ, ◌+◌, ◌<◌, Bool, true, false, not, Some, List, length, drop, refl}
use Rattle.std.proofs.Math.ListN.{get_or}
use Rattle.std.proofs.lemmas.List.{drop_more}
use Rattle.std.specs.List.{list_all, list_any, find}

pub not-true : (b : Bool) → not b ≡ true → b ≡ false
not-true true h = cc
not-true false h = refl

pub not-false : (b : Bool) → not b ≡ false → b ≡ true
not-false true h = refl
not-false false h = cc

module _ {X : Type 0} (p : X → Bool) (xs : List X) (k : ℕ) (d : X) (h : k < length xs) where
  pub find-here : p (get_or xs k d) ≡ true → Some (get_or xs k d) ≡ find p (drop k xs)
  find-here is = rw (drop_more xs k d h, is)

  pub find-past : p (get_or xs k d) ≡ false → find p (drop (k + 1) xs) ≡ find p (drop k xs)
  find-past is = rw (drop_more xs k d h, is)

  pub any-here : p (get_or xs k d) ≡ true → true ≡ list_any p (drop k xs)
  any-here is = rw (drop_more xs k d h, is)

  pub any-past : p (get_or xs k d) ≡ false → list_any p (drop (k + 1) xs) ≡ list_any p (drop k xs)
  any-past is = rw (drop_more xs k d h, is)

  pub all-here : p (get_or xs k d) ≡ false → false ≡ list_all p (drop k xs)
  all-here is = rw (drop_more xs k d h, is)

  pub all-past : p (get_or xs k d) ≡ true → list_all p (drop (k + 1) xs) ≡ list_all p (drop k xs)
  all-past is = rw (drop_more xs k d h, is)
