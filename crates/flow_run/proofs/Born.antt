-- Few items are born within limits.
use Rattle.std.proofs.Common.{◌≡◌, ℕ, zero, suc, ◌+◌, ◌^◌, ◌<◌, ◌≤◌, Some, List, [], ◌∷◌, ◌++◌, length, take, drop, refl, ap, ◌∙◌, arith}
use Rattle.std.specs.Prelude.{slice_get}
use Rattle.std.proofs.lemmas.List.{drop_all}
use Rattle.flow_item.specs.declared.event.Event.{Event}
use Rattle.flow_item.specs.Events.{births_of, births}
use Rattle.flow_laws.specs.Moments.{IsWithinLimits}
use Rattle.flow_node.proofs.NumberLemmas.{drop-at}

births-append : (xs ys : List Event) → births (xs ++ ys) ≡ births xs + births ys
births-append [] ys = omega arith
births-append (x ∷ xs) ys = let rest = births-append xs ys in omega (arith, rest)

take-drop : {X : Type 0} (xs : List X) (k : ℕ) → xs ≡ take k xs ++ drop k xs
take-drop [] zero = refl
take-drop [] (suc k) = refl
take-drop (x ∷ xs) zero = refl
take-drop (x ∷ xs) (suc k) = ap (λ ys. x ∷ ys) (take-drop xs k)

-- behind the last event
pub none-behind : (es : List Event) (k : ℕ) → k ≡ length es → births (drop k es) ≡ 0
none-behind es k is = ap births (drop_all k es (let le : length es ≤ k = omega (arith, is) in le))

-- before an event without births
pub none-before : (es : List Event) (k n : ℕ) (e : Event) → n ≡ k + 1 → slice_get es k ≡ Some e → births_of e ≡ 0 → births (drop n es) ≡ 0 → births (drop k es) ≡ 0
none-before es k n e next at none rest =
    let step : births (drop k es) ≡ births_of e + births (drop (suc k) es) = ap births (drop-at es k e at) in
    let behind : births (drop (suc k) es) ≡ 0 = ap (λ m. births (drop m es)) (let same : suc k ≡ n = omega (arith, next) in same) ∙ rest in
    omega (arith, step, behind, none)

-- before the last event with births there were fewer than the limit
pub few-born : (items events : ℕ) (es : List Event) (k n : ℕ) (e : Event) → IsWithinLimits items events es → items < 2 ^ 62 → n ≡ k + 1 → slice_get es k ≡ Some e → births (drop n es) ≡ 0 → births_of e ≤ 2 ^ 62 → 0 < births_of e → births es ≤ 2 ^ 63
few-born items events es k n e within small next at rest most some =
    let parts : es ≡ take k es ++ e ∷ drop (suc k) es = take-drop es k ∙ ap (λ ys. take k es ++ ys) (drop-at es k e at) in
    let before : births (take k es) < items = within.room (take k es) e (drop (suc k) es) parts some in
    let sum : births es ≡ births (take k es) + (births_of e + births (drop (suc k) es)) = ap births parts ∙ births-append (take k es) (e ∷ drop (suc k) es) in
    let behind : births (drop (suc k) es) ≡ 0 = ap (λ m. births (drop m es)) (let same : suc k ≡ n = omega (arith, next) in same) ∙ rest in
    omega (arith, before, sum, behind, most, small)
