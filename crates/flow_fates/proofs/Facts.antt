-- What holds of the items of a legal journal, by the laws.
use Rattle.std.proofs.Common.{◌≡◌, true, List, ◌++◌, subst}
use Rattle.flow_item.specs.declared.event.Event.{Event}
use Rattle.flow_shape.specs.declared.Shape.{Shape}
use Rattle.flow_shape.specs.Rules.{IsValid}
use Rattle.flow_machine.specs.Machine.{is_legal, open_after}
use Rattle.flow_machine.specs.Settled.{IsSettled}
use Rattle.flow_laws.specs.Moments.{AtEachStart}
use Rattle.flow_laws.proofs.Settled.{settles}
use Rattle.flow_fates.specs.Facts.{ItemsHaveOneFate, ItemsHaveLineages, HoldsReserve, NothingIsHeld, ParentsWereBorn}
use Rattle.flow_fates.proofs.OneFateLaw.{one-fate}
use Rattle.flow_fates.proofs.LineageLaw.{lineages-end}
use Rattle.flow_fates.proofs.ReservationLaw.{one-reservation}
use Rattle.flow_fates.proofs.NothingLeft.{nothing-held}
use Rattle.flow_fates.proofs.BornParents.{parents-are-born}

module _ (shape : Shape) (es : List Event) (valid : IsValid shape) (legal : is_legal shape es ≡ true) where
  start-legal : (before later : List Event) → es ≡ before ++ later → is_legal shape (before ++ later) ≡ true
  start-legal before later is = subst (λ es. is_legal shape es ≡ true) is legal

  pub one-fate-each : AtEachStart (ItemsHaveOneFate shape) es
  one-fate-each before later is n k at i = one-fate shape before later valid (start-legal before later is) n k at i

  pub lineages-each : AtEachStart (ItemsHaveLineages shape) es
  lineages-each before later is i = lineages-end shape before later valid (start-legal before later is) i

  pub holds-reserve : HoldsReserve shape es
  holds-reserve before between later l item hand e is = one-reservation shape before between later l item hand e (subst (λ es. is_legal shape es ≡ true) is legal)

  -- where nothing is open at its end
  pub closed-is-settled : open_after shape es ≡ 0 → IsSettled shape es
  closed-is-settled closed = settles shape es valid legal closed

  pub closed-holds-nothing : open_after shape es ≡ 0 → NothingIsHeld shape es
  closed-holds-nothing closed n k at = nothing-held shape es valid legal closed n k at

  pub parents-were-born : IsSettled shape es → ParentsWereBorn shape es
  parents-were-born settled = parents-are-born shape es valid legal settled
