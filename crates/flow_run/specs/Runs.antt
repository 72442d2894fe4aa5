-- What a run of several threads leaves.
use Rattle.std.specs.Prelude.{◌≡◌, ℕ, Bool, true, IfSome, Option, List, ◌∷◌, ◌++◌, length}
use Rattle.std.specs.List.{count_by}
use Rattle.flow_item.specs.declared.event.Event.{Event}
use Rattle.flow_shape.specs.declared.Shape.{Shape}
use Rattle.flow_shape.specs.declared.Step.{Step}
use Rattle.flow_machine.specs.Bodies.{Meanings}
use Rattle.flow_machine.specs.Machine.{is_leave, is_run, open_after}
use Rattle.flow_laws.specs.Moments.{IsWithinLimits}
use Rattle.flow_line.specs.Values.{Sitting}
use Rattle.flow_book.specs.declared.machine.Run.{Run}
use Rattle.flow_work.specs.Promises.{FollowsScripts, CompletesScripts, HeedsWaits, KeepsBodies}
use Rattle.flow_run.specs.Refusals.{IsRefusedWithin}

-- a legal run with so many workers, the event that it was refused, and where all did their share nothing is left to do
pub record IsRunOf (m : Meanings) (shape : Shape) (scripts : List (List Step)) (workers items events : ℕ) (es : List Event) (refused : Option Event) (all : Bool) : Type 0 where
  pub run : is_run shape (length scripts) workers es ≡ true
  pub follows : FollowsScripts shape scripts es
  pub waits : HeedsWaits shape scripts es
  pub bodies : KeepsBodies m shape es
  pub within : IsWithinLimits items events es
  pub event : IfSome refused (IsRefusedWithin m shape scripts workers items events es)
  pub whole : all ≡ true → CompletesScripts shape scripts es
  pub closed : all ≡ true → open_after shape es ≡ 0

-- one of the chairs saw that all callers had left, and that nothing was open
pub record SawTheEnd (run : Run) (cs : List (Sitting Event Run)) : Type 0 where
  pub before : List (Sitting Event Run)
  pub after : List (Sitting Event Run)
  pub chair : Sitting Event Run
  pub is : cs ≡ before ++ chair ∷ after
  pub left : count_by is_leave chair.seen ≡ run.callers
  pub closed : open_after run.shape chair.seen ≡ 0
