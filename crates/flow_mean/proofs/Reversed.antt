-- A list that is taken from its front by a reversed copy.
use Rattle.std.proofs.Common.{◌≡◌, ◌<◌, List, [], ◌∷◌, ◌++◌, length, get_or, refl, sym, ap, ◌∙◌, arith, append_assoc}
use Rattle.std.proofs.lemmas.List.{append-nil, reverse-append, reverse-reverse}
use Rattle.std.specs.Prelude.{reverse}
use Rattle.std.specs.List.{flat_map}
use Rattle.flow_item.specs.Pairs.{Pair}

empty : {X : Type 0} (xs : List X) → length xs ≡ 0 → xs ≡ []
empty [] h = refl
empty (x ∷ xs) h = absurd (omega (arith, h))

turned : {X : Type 0} (rest : List X) (x : X) → reverse (rest ++ x ∷ []) ≡ x ∷ reverse rest
turned rest x = reverse-append rest (x ∷ [])

-- ---- the first of a list

pub first-read : {X : Type 0} (xs : List X) (x d : X) → 0 < length xs → x ≡ get_or xs 0 x → x ≡ get_or xs 0 d
first-read [] x d h e = absurd (omega (arith, h))
first-read (y ∷ ys) x d h e = e

pub first-none : {X : Type 0} (xs : List X) (d : X) → length xs ≡ 0 → d ≡ get_or xs 0 d
first-none xs d h = sym (ap (λ l. get_or l 0 d) (empty xs h))

-- ---- what a function answers to each

module _ (f : Pair → List Pair) (all : List Pair) where
  pub answers-begin : (pairs left : List Pair) → pairs ≡ [] → left ≡ reverse all → pairs ++ flat_map f (reverse left) ≡ flat_map f all
  answers-begin pairs left e h = ap (λ (l : List Pair). l ++ flat_map f (reverse left)) e ∙ ap (λ l. flat_map f (reverse l)) h ∙ ap (flat_map f) (reverse-reverse all)

  pub answers-on : (pairs now left rest : List Pair) (p : Pair) → left ≡ rest ++ p ∷ [] → now ≡ pairs ++ f p → pairs ++ flat_map f (reverse left) ≡ flat_map f all → now ++ flat_map f (reverse rest) ≡ flat_map f all
  answers-on pairs now left rest p h made inv =
      ap (λ l. l ++ flat_map f (reverse rest)) made
      ∙ append_assoc pairs (f p) (flat_map f (reverse rest))
      ∙ ap (λ l. pairs ++ l) (sym (ap (λ l. flat_map f (reverse l)) h ∙ ap (flat_map f) (turned rest p)))
      ∙ inv

  pub answers-end : (pairs left : List Pair) → length left ≡ 0 → pairs ++ flat_map f (reverse left) ≡ flat_map f all → pairs ≡ flat_map f all
  answers-end pairs left h inv = sym (append-nil pairs) ∙ sym (ap (λ l. pairs ++ flat_map f (reverse l)) (empty left h)) ∙ inv
