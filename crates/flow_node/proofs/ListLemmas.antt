-- Lists that are mapped, cut and joined.
use Rattle.std.proofs.Common.{◌≡◌, ℕ, zero, suc, ◌<◌, ◌≤◌, Bool, true, false, cond, Some, None, List, [], ◌∷◌, ◌++◌, length, map, take, drop, refl, ap, arith}
use Rattle.std.specs.Prelude.{slice_get}
use Rattle.std.specs.List.{list_all, find}
use Rattle.std.specs.Option.{option_map}
use Rattle.flow_item.specs.Lists.{first, rest}
use Rattle.flow_item.proofs.Tests.{and_left, and_right, both_true}
use Rattle.flow_machine.specs.State.{change_first}

module _ {X Y : Type 0} (f : X → Y) where
  pub first-map : (xs : List X) → first (map f xs) ≡ option_map f (first xs)
  first-map [] = refl
  first-map (x ∷ xs) = refl

  pub rest-map : (xs : List X) → rest (map f xs) ≡ map f (rest xs)
  rest-map [] = refl
  rest-map (x ∷ xs) = refl

  pub change_first-map : (g : X → X) (h : Y → Y) → ((x : X) → f (g x) ≡ h (f x)) → (xs : List X) → map f (change_first g xs) ≡ change_first h (map f xs)
  change_first-map g h same [] = refl
  change_first-map g h same (x ∷ xs) = ap (λ y. y ∷ map f xs) (same x)

module _ {X : Type 0} where
  pub take-all : (xs : List X) → take (length xs) xs ≡ xs
  take-all [] = refl
  take-all (x ∷ xs) = ap (λ ys. x ∷ ys) (take-all xs)

  pub drop-all : (xs : List X) → drop (length xs) xs ≡ []
  drop-all [] = refl
  drop-all (x ∷ xs) = drop-all xs

  pub take-front : (xs ys : List X) → take (length xs) (xs ++ ys) ≡ xs
  take-front [] ys = by_list ys
    where
      by_list : (ys : List X) → take 0 ys ≡ []
      by_list [] = refl
      by_list (y ∷ ys) = refl
  take-front (x ∷ xs) ys = ap (λ zs. x ∷ zs) (take-front xs ys)

  pub drop-front : (xs ys : List X) → drop (length xs) (xs ++ ys) ≡ ys
  drop-front [] [] = refl
  drop-front [] (y ∷ ys) = refl
  drop-front (x ∷ xs) ys = drop-front xs ys

  pub take-take : (n : ℕ) (xs : List X) → take n (take n xs) ≡ take n xs
  take-take zero [] = refl
  take-take zero (x ∷ xs) = refl
  take-take (suc n) [] = refl
  take-take (suc n) (x ∷ xs) = ap (λ ys. x ∷ ys) (take-take n xs)

  pub drop-take : (n : ℕ) (xs : List X) → drop n (take n xs) ≡ []
  drop-take zero [] = refl
  drop-take zero (x ∷ xs) = refl
  drop-take (suc n) [] = refl
  drop-take (suc n) (x ∷ xs) = drop-take n xs

  pub take_drop : (n : ℕ) (xs : List X) → take n xs ++ drop n xs ≡ xs
  take_drop zero [] = refl
  take_drop zero (x ∷ xs) = refl
  take_drop (suc n) [] = refl
  take_drop (suc n) (x ∷ xs) = ap (λ ys. x ∷ ys) (take_drop n xs)

  pub length-take : (n : ℕ) (xs : List X) → n ≤ length xs → length (take n xs) ≡ n
  length-take zero [] h = refl
  length-take zero (x ∷ xs) h = refl
  length-take (suc n) [] h = absurd (omega (arith, h))
  length-take (suc n) (x ∷ xs) h = ap suc (length-take n xs (omega arith))

  -- the first member of a list that is cut later on
  pub first-take : (n : ℕ) (xs : List X) → 0 < n → first (take n xs) ≡ first xs
  first-take zero xs h = absurd (omega (arith, h))
  first-take (suc n) [] h = refl
  first-take (suc n) (x ∷ xs) h = refl

  pub first-take_none : (n : ℕ) (xs : List X) → n ≡ 0 → first (take n xs) ≡ None
  first-take_none zero [] h = refl
  first-take_none zero (x ∷ xs) h = refl
  first-take_none (suc n) xs h = cc

  pub change_first-take : (g : X → X) (n : ℕ) (xs : List X) → take n (change_first g xs) ≡ change_first g (take n xs)
  change_first-take g zero [] = refl
  change_first-take g zero (x ∷ xs) = refl
  change_first-take g (suc n) [] = refl
  change_first-take g (suc n) (x ∷ xs) = refl

  pub change_first-drop : (g : X → X) (n : ℕ) (xs : List X) → 0 < n → drop n (change_first g xs) ≡ drop n xs
  change_first-drop g zero xs h = absurd (omega (arith, h))
  change_first-drop g (suc n) [] h = refl
  change_first-drop g (suc n) (x ∷ xs) h = refl

  pub drop-at : (xs : List X) (n : ℕ) (x : X) → slice_get xs n ≡ Some x → drop n xs ≡ x ∷ drop (suc n) xs
  drop-at [] n x h = cc
  drop-at (y ∷ xs) zero x h = let same : y ≡ x = cc in rw same
  drop-at (y ∷ xs) (suc n) x h = drop-at xs n x h

  pub all-append : (p : X → Bool) (xs ys : List X) → list_all p xs ≡ true → list_all p ys ≡ true → list_all p (xs ++ ys) ≡ true
  all-append p [] ys h g = g
  all-append p (x ∷ xs) ys h g = both_true (and_left (p x) (list_all p xs) h) (all-append p xs ys (and_right (p x) _ h) g)

  pub all-rest : (p : X → Bool) (xs : List X) → list_all p xs ≡ true → list_all p (rest xs) ≡ true
  all-rest p [] h = refl
  all-rest p (x ∷ xs) h = and_right (p x) (list_all p xs) h

  -- one that isn't in the first list is looked for in the second
  pub find-second : (p : X → Bool) (xs ys : List X) → None ≡ find p xs → find p ys ≡ find p (xs ++ ys)
  find-second p [] ys h = refl
  find-second p (x ∷ xs) ys h = by_first (p x) h (find-second p xs ys)
    where
      by_first : (b : Bool) → None ≡ cond b (Some x) (find p xs) → (None ≡ find p xs → find p ys ≡ find p (xs ++ ys)) → find p ys ≡ cond b (Some x) (find p (xs ++ ys))
      by_first true h later = cc
      by_first false h later = later h

  pub find-first : (p : X → Bool) (xs ys : List X) (x : X) → Some x ≡ find p xs → Some x ≡ find p (xs ++ ys)
  find-first p [] ys x h = cc
  find-first p (y ∷ xs) ys x h = by_first (p y) h (find-first p xs ys x)
    where
      by_first : (b : Bool) → Some x ≡ cond b (Some y) (find p xs) → (Some x ≡ find p xs → Some x ≡ find p (xs ++ ys)) → Some x ≡ cond b (Some y) (find p (xs ++ ys))
      by_first true h later = h
      by_first false h later = later h
