-- Lists of lists, of which one member each is taken.
use Rattle.std.proofs.Common.{◌≡◌, ℕ, zero, suc, ◌+◌, ◌<◌, ◌≤◌, Bool, true, false, not, ◌&&◌, is_some, Option, Some, None, List, [], ◌∷◌, ◌++◌, map, length, slice_get, slice_set, slice_index_or, replicate, refl, ap, sym, ◌∙◌, arith}
use Rattle.std.specs.List.{list_all}
use Rattle.std.specs.Option.{unwrap_or}
use Rattle.flow_item.specs.Lists.{is_empty, first, rest, change_at}
use Rattle.flow_machine.specs.State.{option_list}
use Rattle.flow_machine.specs.Offers.{cons_all, fronts}
use Rattle.flow_machine.specs.WishEvents.{where_some}

module _ {X : Type 0} where
  -- the first i members changed
  abbrev pub changed_to : (X → X) → ℕ → List X → List X
  changed_to f zero xs = xs
  changed_to f (suc i) [] = []
  changed_to f (suc i) (x ∷ xs) = f x ∷ changed_to f i xs

  pub changed_to-step : (f : X → X) (i : ℕ) (xs : List X) → change_at f i (changed_to f i xs) ≡ changed_to f (suc i) xs
  changed_to-step f zero [] = refl
  changed_to-step f zero (x ∷ xs) = refl
  changed_to-step f (suc i) [] = refl
  changed_to-step f (suc i) (x ∷ xs) = ap (λ ys. f x ∷ ys) (changed_to-step f i xs)

  pub changed_to-at : (f : X → X) (i : ℕ) (xs : List X) → slice_get (changed_to f i xs) i ≡ slice_get xs i
  changed_to-at f zero xs = refl
  changed_to-at f (suc i) [] = refl
  changed_to-at f (suc i) (x ∷ xs) = changed_to-at f i xs

  pub changed_to-all : (f : X → X) (xs : List X) → changed_to f (length xs) xs ≡ map f xs
  changed_to-all f [] = refl
  changed_to-all f (x ∷ xs) = ap (λ ys. f x ∷ ys) (changed_to-all f xs)

  pub changed_to-end : (f : X → X) (i : ℕ) (xs : List X) → i ≡ length xs → changed_to f i xs ≡ map f xs
  changed_to-end f i xs e = rw e (changed_to-all f xs)

module _ {X Y : Type 0} where
  -- what the first i members give
  abbrev pub given_to : (X → Option Y) → ℕ → List X → List Y
  given_to g zero xs = []
  given_to g (suc i) [] = []
  given_to g (suc i) (x ∷ xs) = option_list (g x) ++ given_to g i xs

  -- what all of them give
  abbrev pub given : (X → Option Y) → List X → List Y
  given g [] = []
  given g (x ∷ xs) = option_list (g x) ++ given g xs

  pub given_to-all : (g : X → Option Y) (xs : List X) → given_to g (length xs) xs ≡ given g xs
  given_to-all g [] = refl
  given_to-all g (x ∷ xs) = ap (λ ys. option_list (g x) ++ ys) (given_to-all g xs)

  pub given_to-step : (g : X → Option Y) (i : ℕ) (xs : List X) → given_to g (suc i) xs ≡ given_to g i xs ++ option_list (where_some (slice_get xs i) g)
  given_to-step g zero [] = refl
  given_to-step g zero (x ∷ xs) = append-nil (option_list (g x))
    where
      append-nil : (ys : List Y) → ys ++ [] ≡ ys
      append-nil [] = refl
      append-nil (y ∷ ys) = ap (λ zs. y ∷ zs) (append-nil ys)
  given_to-step g (suc i) [] = refl
  given_to-step g (suc i) (x ∷ xs) = ap (λ ys. option_list (g x) ++ ys) (given_to-step g i xs) ∙ regroup (option_list (g x)) (given_to g i xs) _
    where
      regroup : (vs bs cs : List Y) → vs ++ (bs ++ cs) ≡ (vs ++ bs) ++ cs
      regroup [] bs cs = refl
      regroup (a ∷ vs) bs cs = ap (λ zs. a ∷ zs) (regroup vs bs cs)

  -- a member set, as the images see it
  pub map-set-change : (f : X → Y) (h : Y → Y) (xs : List X) (i : ℕ) (x d : X) → f x ≡ h (f (slice_index_or xs i d)) → map f (slice_set xs i x) ≡ change_at h i (map f xs)
  map-set-change f h [] i x d e = refl
  map-set-change f h (y ∷ xs) zero x d e = ap (λ z. z ∷ map f xs) e
  map-set-change f h (y ∷ xs) (suc i) x d e = ap (λ zs. f y ∷ zs) (map-set-change f h xs i x d e)

  pub get-map : (f : X → Y) (xs : List X) (i : ℕ) (d : X) → i < length xs → slice_get (map f xs) i ≡ Some (f (slice_index_or xs i d))
  get-map f [] i d h = absurd (omega arith)
  get-map f (x ∷ xs) zero d h = refl
  get-map f (x ∷ xs) (suc i) d h = get-map f xs i d (omega arith)

  pub map-replicate : (f : X → Y) (xs : List X) (n : ℕ) (x : X) (y : Y) → map f xs ≡ replicate n y → f x ≡ y → map f (xs ++ x ∷ []) ≡ replicate (suc n) y
  map-replicate f [] zero x y h e = ap (λ z. z ∷ []) e
  map-replicate f [] (suc n) x y h e = cc
  map-replicate f (z ∷ xs) zero x y h e = cc
  map-replicate f (z ∷ xs) (suc n) x y h e = let here : f z ≡ y = cc in let later : map f xs ≡ replicate n y = cc in cc (map-replicate f xs n x y later e)

module _ {X : Type 0} where
  pub fronts-all : (xss : List (List X)) → is_some (fronts xss) ≡ list_all (λ xs. not (is_empty xs)) xss
  fronts-all [] = refl
  fronts-all ([] ∷ xss) = refl
  fronts-all ((x ∷ xs) ∷ xss) = by_later (fronts xss) ∙ fronts-all xss
    where
      by_later : (o : Option (List X)) → is_some (cons_all (Some x) o) ≡ is_some o
      by_later None = refl
      by_later (Some ys) = refl

  -- where each list has a member, the fronts are the first members
  pub fronts-given : (xss : List (List X)) → is_some (fronts xss) ≡ true → unwrap_or (fronts xss) [] ≡ given first xss
  fronts-given [] h = refl
  fronts-given ([] ∷ xss) h = cc
  fronts-given ((x ∷ xs) ∷ xss) h = by_later (fronts xss) h (fronts-given xss)
    where
      by_later : (o : Option (List X)) → is_some (cons_all (Some x) o) ≡ true → (is_some o ≡ true → unwrap_or o [] ≡ given first xss) → unwrap_or (cons_all (Some x) o) [] ≡ x ∷ given first xss
      by_later None h later = cc
      by_later (Some ys) h later = ap (λ zs. x ∷ zs) (later refl)

  pub fronts-end : (xss : List (List X)) (i : ℕ) → is_some (fronts xss) ≡ true → i ≡ length xss → given_to first i xss ≡ unwrap_or (fronts xss) []
  fronts-end xss i h e = rw e (given_to-all first xss ∙ sym (fronts-given xss h))

  pub fronts-at : (xss : List (List X)) (k : ℕ) → is_some (fronts xss) ≡ true → where_some (fronts xss) (λ xs. slice_get xs k) ≡ where_some (slice_get xss k) first
  fronts-at [] k h = refl
  fronts-at ([] ∷ xss) k h = cc
  fronts-at ((x ∷ xs) ∷ xss) k h = by_later (fronts xss) k h (fronts-at xss)
    where
      by_later : (o : Option (List X)) (k : ℕ) → is_some (cons_all (Some x) o) ≡ true → ((k : ℕ) → is_some o ≡ true → where_some o (λ ys. slice_get ys k) ≡ where_some (slice_get xss k) first)
          → where_some (cons_all (Some x) o) (λ ys. slice_get ys k) ≡ where_some (slice_get ((x ∷ xs) ∷ xss) k) first
      by_later None k h later = cc
      by_later (Some ys) zero h later = refl
      by_later (Some ys) (suc k) h later = later k refl

  -- a member of such a list is not empty
  pub fronts-some : (xss : List (List X)) (k : ℕ) (xs : List X) → is_some (fronts xss) ≡ true → slice_get xss k ≡ Some xs → 0 < length xs
  fronts-some [] k xs h at = cc
  fronts-some ([] ∷ xss) k xs h at = cc
  fronts-some ((x ∷ ys) ∷ xss) zero [] h at = cc
  fronts-some ((x ∷ ys) ∷ xss) zero (z ∷ xs) h at = omega arith
  fronts-some ((x ∷ ys) ∷ xss) (suc k) xs h at = fronts-some xss k xs (by_later (fronts xss) h) at
    where
      by_later : (o : Option (List X)) → is_some (cons_all (Some x) o) ≡ true → is_some o ≡ true
      by_later None h = cc
      by_later (Some ys) h = refl
