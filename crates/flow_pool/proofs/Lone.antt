-- What a hand that is alone learns where the queue was empty.
use Rattle.std.proofs.Common.{◌≡◌, ℕ, zero, suc, ◌⊎◌, true, List, [], ◌∷◌, refl, sym, ap, ◌∙◌, inl, inr, ⊎_elim, arith}
use Rattle.std.specs.List.{sum_by}
use Rattle.std.proofs.lemmas.List.Sums.{sum_by-cons}
use mathlib.Core.Option.{some, some-injective, some-ne-none}
use lib.ListN.{get_elem?}
use Rattle.flow_pool.specs.declared.hand.Hand.{Hand}
use Rattle.flow_pool.specs.Rule.{copies, idle, SawEmpty}

-- the hands at other places count for nothing
abbrev Others : (Hand → ℕ) → List Hand → ℕ → Type 0
Others f hands i = (j : ℕ) (g : Hand) → get_elem? hands j ≡ some g → (j ≡ i) ⊎ (f g ≡ 0)

sum_none : (f : Hand → ℕ) (hands : List Hand) → ((j : ℕ) (g : Hand) → get_elem? hands j ≡ some g → f g ≡ 0) → sum_by f hands ≡ 0
sum_none f [] all = refl
sum_none f (g ∷ gs) all = let a = all 0 g refl in let b = sum_none f gs (λ j h e. all (suc j) h e) in omega (arith, sum_by-cons f g gs)

sum_lone : (f : Hand → ℕ) (hands : List Hand) (i : ℕ) (h : Hand) → get_elem? hands i ≡ some h → Others f hands i → sum_by f hands ≡ f h
sum_lone f [] i h e others = absurd (some-ne-none h (sym e))
sum_lone f (g ∷ gs) zero h e others =
    let is : f g ≡ f h = ap f (some-injective g h e) in
    let rest = sum_none f gs (λ j k at. ⊎_elim (λ (x : suc j ≡ 0). absurd (omega arith)) (λ (x : f k ≡ 0). x) (others (suc j) k at)) in
    omega (arith, sum_by-cons f g gs)
sum_lone f (g ∷ gs) (suc i) h e others =
    let none : f g ≡ 0 = ⊎_elim (λ (x : 0 ≡ suc i). absurd (omega arith)) (λ (x : f g ≡ 0). x) (others 0 g refl) in
    let rest = sum_lone f gs i h e (λ j k at. ⊎_elim (λ (x : suc j ≡ suc i). inl (omega arith)) (λ (x : f k ≡ 0). inr x) (others (suc j) k at)) in
    omega (arith, sum_by-cons f g gs)

pub all_taken_alone : (h : Hand) → h.alone ≡ true → SawEmpty h → (x : ℕ) → copies x h.taken ≡ copies x h.pushed
all_taken_alone h is (hands, i, b, at) x =
    let others : (f : Hand → ℕ) → f idle ≡ 0 → Others f hands i = λ f none j g e. ⊎_elim (λ (y : j ≡ i). inl y) (λ (y : g ≡ idle). inr (ap f y ∙ none)) (b.alone i j h g at is e) in
    let p = sum_lone (λ g. copies x g.pushed) hands i h at (others (λ g. copies x g.pushed) refl) in
    let t = sum_lone (λ g. copies x g.taken) hands i h at (others (λ g. copies x g.taken) refl) in
    let e = b.even x in
    omega arith
