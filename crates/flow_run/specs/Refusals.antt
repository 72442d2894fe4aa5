-- The event that a run of several threads was refused.
use Rattle.std.specs.Prelude.{ℕ, List, [], ◌∷◌, ◌++◌}
use mathlib.Core.List.{IsPrefix}
use Rattle.flow_item.specs.declared.event.Event.{Event}
use Rattle.flow_shape.specs.declared.Shape.{Shape}
use Rattle.flow_shape.specs.declared.Step.{Step}
use Rattle.flow_machine.specs.Bodies.{Meanings}
use Rattle.flow_work.specs.Promises.{IsRefusedAfter, KeepsBodies}

-- after a beginning of the journal the event may come next, passes a limit, keeps the scripts, and has the messages that bodies mean
pub record IsRefusedWithin (m : Meanings) (shape : Shape) (scripts : List (List Step)) (workers items events : ℕ) (es : List Event) (e : Event) : Type 0 where
  pub before : List Event
  pub start : IsPrefix before es
  pub refused : IsRefusedAfter shape scripts workers items events before e
  pub bodies : KeepsBodies m shape (before ++ e ∷ [])
