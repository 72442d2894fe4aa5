-- What is asked of bodies.
use Rattle.std.specs.Prelude.{◌≡◌, ℕ, true}
use Rattle.flow_item.specs.declared.val.Val.{Val}
use Rattle.flow_machine.specs.Bodies.{Meanings}
use Rattle.flow_body.specs.Single.{is_single_answer}

-- a body that is pure and single answers one message, on port 0 and with the item's tag; this is a law of the trait of bodies
abbrev pub SinglesAnswerOnce : Meanings → Type 0
SinglesAnswerOnce m = (body : ℕ) → m.is_pure body ≡ true → m.is_single body ≡ true → (arg : Val) (tag : ℕ) (v : Val) → is_single_answer tag (m.out body arg tag v) ≡ true
