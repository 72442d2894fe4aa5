-- Two ledgers at their places.
use Rattle.std.proofs.Common.{◌≡◌, ℕ, zero, suc, true, Some, List, length, slice_get, sym, subst, ◌∙◌, arith}
use Rattle.std.proofs.lemmas.Option.{slice_get_within}
use Rattle.flow_item.specs.declared.event.Event.{Event}
use Rattle.flow_item.specs.declared.event.Party.TheVariants.{Node}
use Rattle.flow_item.specs.Events.{parties_of}
use Rattle.flow_item.specs.Legal.{takes_part}
use Rattle.flow_shape.specs.declared.Kind.{Kind}
use Rattle.flow_machine.specs.Ledger.{tally_add}
use Rattle.flow_tally.specs.declared.tallies.Tally.{Tally}
use Rattle.flow_tally.specs.Tallies.{without_kept, IsSmall}

same_some : {X : Type 0} (x y : X) → Some x ≡ Some y → x ≡ y
same_some x y h = cc

-- what is known of the two places holds at each
pub two_places :
    (kinds : List Kind) (ts : List Tally) (e : Event) (a b : Kind) (t u : Tally) → length ts ≡ 2 →
    slice_get kinds 0 ≡ Some a → slice_get ts 0 ≡ Some t → slice_get kinds 1 ≡ Some b → slice_get ts 1 ≡ Some u →
    IsSmall (tally_add 0 a (without_kept t) e) → IsSmall (tally_add 1 b (without_kept u) e) →
    (n : ℕ) (k : Kind) (v : Tally) → slice_get kinds n ≡ Some k → slice_get ts n ≡ Some v →
    takes_part (parties_of e) (Node n) ≡ true → IsSmall (tally_add n k (without_kept v) e)
two_places kinds ts e a b t u len ka ta kb ub first second zero k v hk hv takes =
    let P : Kind → Tally → Type 0 = λ x y. IsSmall (tally_add 0 x (without_kept y) e) in
    let one : P k t = subst (λ x. P x t) (same_some a k (sym ka ∙ hk)) first in
    subst (λ y. P k y) (same_some t v (sym ta ∙ hv)) one
two_places kinds ts e a b t u len ka ta kb ub first second (suc zero) k v hk hv takes =
    let P : Kind → Tally → Type 0 = λ x y. IsSmall (tally_add 1 x (without_kept y) e) in
    let one : P k u = subst (λ x. P x u) (same_some b k (sym kb ∙ hk)) second in
    subst (λ y. P k y) (same_some u v (sym ub ∙ hv)) one
two_places kinds ts e a b t u len ka ta kb ub first second (suc (suc n)) k v hk hv takes =
    let within = slice_get_within ts (suc (suc n)) v hv in
    absurd (omega (arith, len, within))
