-- How far a caller is in its script, as its chair tells.
use Rattle.std.specs.Prelude.{◌≡◌, ◌⊎◌, ℕ, ◌<◌, true, false, nat_eq, IfSome, Some, None, List, [], ◌++◌, length, drop, slice_get}
use Rattle.flow_item.specs.declared.event.Event.{Event}
use Rattle.flow_item.specs.declared.event.Event.TheVariants as E
use Rattle.flow_item.specs.declared.event.PutAnswer.{PutAnswer}
use Rattle.flow_item.specs.declared.event.Party.TheVariants.{Caller}
use Rattle.flow_item.specs.Events.{parties_of}
use Rattle.flow_item.specs.Legal.{takes_part, projection}
use Rattle.flow_shape.specs.declared.Shape.{Shape}
use Rattle.flow_shape.specs.declared.Step.{Step}
use Rattle.flow_shape.specs.declared.Step.TheVariants as T
use Rattle.flow_machine.specs.Machine.{open_after}
use Rattle.flow_machine.specs.Scripts.{Sent, sent_by, all_sent, script}
use Rattle.flow_line.specs.Values.{Sitting}
use Rattle.flow_book.specs.declared.machine.Run.{Run}
use Rattle.flow_book.specs.Answers.{passes, IsDone, IsSame, IsStopped}
use Rattle.flow_book.specs.Callers.{number_of}
use Rattle.flow_work.specs.Promises.{WaitedAt}
use Rattle.flow_work.specs.Runs.{is_answer}

-- ---- one step

-- all events of the chair's party in what it has seen are its own
abbrev pub HasAllOwn : Sitting Event Run → Type 0
HasAllOwn c = c.own ≡ projection parties_of c.party c.seen

-- the caller did the step: it made the step's event, or saw that nothing is open
abbrev pub DoesStep : Shape → Step → Sitting Event Run → Sitting Event Run → Type 0
DoesStep shape (T.Put n port tag val) c d = (answer : PutAnswer) × IsDone c (E.Put (number_of c.party) n port tag val answer) d
DoesStep shape (T.Act n) c d = IsDone c (E.Act (number_of c.party) n) d
DoesStep shape T.Wait c d = IsSame c d × (open_after shape d.seen ≡ 0)
DoesStep shape T.Cancel c d = ⊥

-- the event is one of the caller's step
abbrev pub IsOfStep : ℕ → Step → Event → Type 0
IsOfStep number (T.Put n port tag val) e = (answer : PutAnswer) × (e ≡ E.Put number n port tag val answer)
IsOfStep number (T.Act n) e = e ≡ E.Act number n
IsOfStep number s e = ⊥

-- it made no event, and its chair keeps the one that a limit refused
abbrev pub StopsBy : (Event → Type 0) → Sitting Event Run → Sitting Event Run → Type 0
StopsBy Meant c d = IsSame c d ⊎ ((e : Event) × Meant e × IsStopped c e d)

-- the caller left, or was refused
abbrev pub LeavesOr : Sitting Event Run → Sitting Event Run → Type 0
LeavesOr c d = IsDone c (E.Leave (number_of c.party)) d ⊎ StopsBy (λ e. e ≡ E.Leave (number_of c.party)) c d

-- ---- a script

-- the caller did the steps before step k, and waited at each wait among them
pub record IsAt (shape : Shape) (steps : List Step) (k : ℕ) (c : Sitting Event Run) : Type 0 where
  pub whole : all_sent c.own ++ script shape (drop k steps) ≡ script shape steps
  pub waited : (j : ℕ) → j < k → slice_get steps j ≡ Some T.Wait → WaitedAt shape steps c.seen (number_of c.party) j

-- the event would have come right after what the caller has seen, and is the first of what is left of its script
pub record IsRefusedStep (c : Sitting Event Run) (left : List Sent) (e : Event) : Type 0 where
  pub passes_it : passes c.about c.seen e ≡ true
  pub own : HasAllOwn c
  pub of : (m : ℕ) → takes_part (parties_of e) (Caller m) ≡ nat_eq (number_of c.party) m
  pub next : (later : List Sent) × (sent_by e ++ later ≡ left)
  pub plain : is_answer e ≡ false

-- the caller did all of its script but what is left, and waited at each wait before its last event; what it was refused is next
pub record HasFollowed (shape : Shape) (steps : List Step) (c : Sitting Event Run) : Type 0 where
  pub left : List Sent
  pub whole : all_sent c.own ++ left ≡ script shape steps
  pub waited : (j : ℕ) → slice_get steps j ≡ Some T.Wait → length left < length (script shape (drop j steps)) → WaitedAt shape steps c.seen (number_of c.party) j
  pub refused : IfSome c.kept (λ kept. IsRefusedStep c left kept.0)

-- the chair's caller followed its script
abbrev pub FollowsOwn : Shape → List (List Step) → Sitting Event Run → Type 0
FollowsOwn shape scripts c = (steps : List Step) → slice_get scripts (number_of c.party) ≡ Some steps → HasFollowed shape steps c

-- ---- before and after a run

-- the chair has made no event, and keeps none
abbrev pub IsNew : Sitting Event Run → Type 0
IsNew c = (c.own ≡ []) × (c.kept ≡ None)
