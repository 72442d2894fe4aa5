-- What the bodies that a party ran have to do with their meanings.
use Rattle.std.specs.Prelude.{◌≡◌, ℕ, Bool, true, if◌then◌else◌, List, [], ◌∷◌, ◌++◌}
use Rattle.std.proofs.Common.{ap, ◌∙◌}
use mathlib.Core.List.{IsPrefix}
use Rattle.flow_item.specs.declared.val.Val.{Val}
use Rattle.flow_item.specs.declared.item.Item.{Item}
use Rattle.flow_item.specs.declared.item.Msg.{Msg}
use Rattle.flow_item.specs.declared.event.Event.{Event}
use Rattle.flow_item.specs.declared.event.Party.{Party}
use Rattle.flow_item.specs.Events.{parties_of}
use Rattle.flow_item.specs.Legal.{projection, takes_part}
use Rattle.flow_item.specs.Values.{same_msgs}
use Rattle.flow_shape.specs.declared.Shape.{Shape}
use Rattle.flow_machine.specs.Bodies.{Meanings, body_kept}
use Rattle.flow_body.specs.Builtin.{meanings_of, builtin_bodies}
use Rattle.flow_body.specs.Single.{is_single_answer, one-single}
use Rattle.flow_body.proofs.Singles.{singles_answer}
use Rattle.flow_line.specs.Values.{Sitting}
use Rattle.flow_book.specs.declared.machine.Run.{Run}
use Rattle.flow_book.specs.declared.job.JobBody.{JobBody}
use Rattle.flow_book.specs.declared.job.JobBody.TheVariants as J

-- a body that is pure and single answers one message, on port 0 and with the item's tag
abbrev pub AnswersOnce : Meanings → Type 0
AnswersOnce m = (body : ℕ) → m.is_pure body ≡ true → m.is_single body ≡ true → (arg : Val) (tag : ℕ) (v : Val) → is_single_answer tag (m.out body arg tag v) ≡ true

pub builtin-answers-once : AnswersOnce (meanings_of builtin_bodies)
builtin-answers-once body pure single arg tag v = ap (is_single_answer tag) (singles_answer body pure single arg tag v).1 ∙ one-single tag (singles_answer body pure single arg tag v).0

-- whether the messages are those of the job's body for the item, where it is pure
abbrev pub answers_job : Meanings → JobBody → Item → List Msg → Bool
answers_job m (J.Run body arg) x outs = if m.is_pure body then same_msgs outs (m.out body arg x.tag x.val) else true
answers_job m (J.Submit arg) x outs = true

-- the event is in what is seen, after these events of the party, and its messages are those of its body's meaning
pub record KeptAt (m : Meanings) (shape : Shape) (p : Party) (seen before : List Event) (e : Event) : Type 0 where
  pub log : List Event
  pub start : IsPrefix (log ++ e ∷ []) seen
  pub own : projection parties_of p log ≡ before
  pub kept : body_kept m shape log e ≡ true

-- each body that the chair's party ended has the messages of its meaning
abbrev pub KeepsOwn : Meanings → Shape → Sitting Event Run → Type 0
KeepsOwn m shape c = (before later : List Event) (e : Event) → c.own ≡ before ++ e ∷ later → KeptAt m shape c.party c.seen before e

-- each body that the party ended in the journal has the messages of its meaning
abbrev pub KeepsOf : Meanings → Shape → Party → List Event → Type 0
KeepsOf m shape p es = (before later : List Event) (e : Event) → es ≡ before ++ e ∷ later → takes_part (parties_of e) p ≡ true → body_kept m shape before e ≡ true
