-- What a run promises of what it leaves, on one thread or on several. Each is a fact of a journal alone.
use Rattle.std.specs.Prelude.{◌≡◌, ℕ, ◌+◌, ◌<◌, Bool, true, false, Some, None, Result, Err, ⊤, List, [], ◌∷◌, ◌++◌, length, drop, slice_get}
use Rattle.flow_item.specs.declared.event.Event.{Event}
use Rattle.flow_item.specs.declared.event.Stop.{Stop}
use Rattle.flow_item.specs.declared.event.Stop.TheVariants.{Limit}
use Rattle.flow_shape.specs.declared.Shape.{Shape}
use Rattle.flow_shape.specs.declared.Step.{Step}
use Rattle.flow_shape.specs.declared.Step.TheVariants as T
use Rattle.flow_machine.specs.Machine.{open_after}
use Rattle.flow_machine.specs.Scripts.{Sent, sent_of, script}
use Rattle.flow_machine.specs.Schedule.{is_scheduled}
use Rattle.flow_machine.specs.Limits.{passes_limit}
use Rattle.flow_machine.specs.Bodies.{Meanings, bodies_kept}
pub use Rattle.flow_fates.specs.Facts.{ItemsHaveOneFate, ItemsHaveLineages, HoldsReserve, NothingIsHeld, ParentsWereBorn}
use Rattle.flow_doc.specs.declared.Kept.{Kept}

-- ---- scripts

-- what each caller did is the first of its script
abbrev pub FollowsScripts : Shape → List (List Step) → List Event → Type 0
FollowsScripts shape scripts es = (c : ℕ) (steps : List Step) → slice_get scripts c ≡ Some steps → (left : List Sent) × (sent_of es c ++ left ≡ script shape steps)

-- what each caller did is its whole script
abbrev pub CompletesScripts : Shape → List (List Step) → List Event → Type 0
CompletesScripts shape scripts es = (c : ℕ) (steps : List Step) → slice_get scripts c ≡ Some steps → sent_of es c ≡ script shape steps

-- the caller did exactly the steps before its wait at step k, and then nothing was open
pub record WaitedAt (shape : Shape) (steps : List Step) (es : List Event) (c k : ℕ) : Type 0 where
  pub before : List Event
  pub later : List Event
  pub is : es ≡ before ++ later
  pub done : sent_of before c ++ script shape (drop k steps) ≡ script shape steps
  pub closed : open_after shape before ≡ 0

-- where a caller's next event after a wait stands in the journal, the caller waited
abbrev pub HeedsWaits : Shape → List (List Step) → List Event → Type 0
HeedsWaits shape scripts es =
    (c : ℕ) (steps : List Step) (k : ℕ) → slice_get scripts c ≡ Some steps → slice_get steps k ≡ Some T.Wait →
    length (script shape steps) < length (sent_of es c) + length (script shape (drop k steps)) → WaitedAt shape steps es c k

-- ---- limits

-- after these events the event may come next, passes a limit, and keeps the scripts
pub record IsRefusedAfter (shape : Shape) (scripts : List (List Step)) (workers items events : ℕ) (es : List Event) (e : Event) : Type 0 where
  pub passes : passes_limit shape (length scripts) workers items events es e ≡ true
  pub follows : FollowsScripts shape scripts (es ++ e ∷ [])

-- and it is the next one of the one thread
pub record IsRefusedNext (shape : Shape) (scripts : List (List Step)) (items events : ℕ) (es : List Event) (e : Event) : Type 0 where
  pub refused : IsRefusedAfter shape scripts 1 items events es e
  pub scheduled : is_scheduled shape scripts (es ++ e ∷ []) ≡ true

abbrev pub is_limit : Result ⊤ Stop → Bool
is_limit (Err Limit) = true
is_limit answer = false

-- ---- over the whole run

-- the messages of pure bodies, and of a pure outside, are those of their meanings
abbrev pub KeepsBodies : Meanings → Shape → List Event → Type 0
KeepsBodies meanings shape es = bodies_kept meanings shape es ≡ true

-- ---- what a run is given and leaves

-- nothing is kept of a run yet
pub record IsFresh (kept : Kept) : Type 0 where
  pub journal : kept.journal ≡ []
  pub refused : kept.refused ≡ None
  pub live : kept.live ≡ []

-- the document and the watcher's pairs are as they were
pub record SameDocument (old new : Kept) : Type 0 where
  pub document : new.doc ≡ old.doc
  pub live : new.live ≡ old.live
