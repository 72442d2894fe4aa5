-- The first item of a number, in lists one after the other.
use Rattle.std.proofs.Common.{◌≡◌, ℕ, zero, suc, ◌<◌, Bool, true, false, ◌||◌, cond, Option, Some, None, List, [], ◌∷◌, ◌++◌, take, length, get_or, refl, sym, ◌∙◌, arith}
use Rattle.std.specs.Prelude.{slice_get}
use Rattle.std.specs.List.{list_any, find}
use Rattle.flow_item.specs.declared.item.Item.{Item}
use Rattle.flow_machine.specs.Enabled.{is_numbered}
use Rattle.flow_func.specs.StageLists.{IsFirstNumbered}

first-at : (p : Item → Bool) (xs : List Item) (k : ℕ) → k < length xs → list_any p (take k xs) ≡ false → ((d : Item) → p (get_or xs k d) ≡ true) → find p xs ≡ slice_get xs k
first-at p [] k within none here = absurd (omega (arith, within))
first-at p (x ∷ xs) zero within none here = let h : p x ≡ true = here x in rw h
first-at p (x ∷ xs) (suc k) within none here = by_first (p x) none (λ later. first-at p xs k (omega (arith, within)) later here)
  where
    by_first : (b : Bool) → (b || list_any p (take k xs)) ≡ false → (list_any p (take k xs) ≡ false → find p xs ≡ slice_get xs k) → cond b (Some x) (find p xs) ≡ slice_get xs k
    by_first true h later = cc
    by_first false h later = later h

pub first-found : (number : ℕ) (xs : List Item) (k : ℕ) → IsFirstNumbered number xs k → find (is_numbered number) xs ≡ slice_get xs k
first-found number xs k is = first-at (is_numbered number) xs k is.within is.none_before is.here

pub none-found : {X : Type 0} (p : X → Bool) (xs : List X) → list_any p xs ≡ false → find p xs ≡ None
none-found p [] h = refl
none-found {X} p (x ∷ xs) h = by_first (p x) h (none-found p xs)
  where
    by_first : (b : Bool) → (b || list_any p xs) ≡ false → (list_any p xs ≡ false → find p xs ≡ None) → cond b (Some x) (find p xs) ≡ None
    by_first true h later = cc
    by_first false h later = later h

-- one that is found in the first list is found in both
pub found-first : {X : Type 0} (p : X → Bool) (xs ys : List X) (x : X) → Some x ≡ find p xs → Some x ≡ find p (xs ++ ys)
found-first p [] ys x h = cc
found-first {X} p (y ∷ xs) ys x h = by_first (p y) h (found-first p xs ys x)
  where
    by_first : (b : Bool) → Some x ≡ cond b (Some y) (find p xs) → (Some x ≡ find p xs → Some x ≡ find p (xs ++ ys)) → Some x ≡ cond b (Some y) (find p (xs ++ ys))
    by_first true h later = h
    by_first false h later = later h

-- one that isn't there is looked for in the second
pub found-second : {X : Type 0} (p : X → Bool) (xs ys : List X) → None ≡ find p xs → find p ys ≡ find p (xs ++ ys)
found-second p [] ys h = refl
found-second {X} p (x ∷ xs) ys h = by_first (p x) h (found-second p xs ys)
  where
    by_first : (b : Bool) → None ≡ cond b (Some x) (find p xs) → (None ≡ find p xs → find p ys ≡ find p (xs ++ ys)) → find p ys ≡ cond b (Some x) (find p (xs ++ ys))
    by_first true h later = cc
    by_first false h later = later h
