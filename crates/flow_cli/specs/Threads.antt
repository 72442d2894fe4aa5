-- What the command `run` promises.
use Rattle.std.specs.Prelude.{◌≡◌, ℕ, ◌+◌, true, IfSome, Option, Some, option_map, List, [], length}
use Rattle.flow_item.specs.declared.event.Event.{Event}
use Rattle.flow_machine.specs.Bodies.{Meanings}
use Rattle.flow_machine.specs.Machine.{is_run}
use Rattle.flow_doc.specs.declared.Doc.{Doc}
use Rattle.flow_doc.specs.declared.Kept.{Kept}
use Rattle.flow_laws.specs.Moments.{IsWithinLimits}
use Rattle.flow_print.specs.declared.status.Status.{Status}
use Rattle.flow_print.specs.declared.status.Status.TheVariants as S
use Rattle.flow_work.specs.Promises.{KeepsBodies}
use Rattle.flow_run.specs.Refusals.{IsRefusedWithin}
use Rattle.flow_cli.specs.declared.threads_words.Threaded.{Threaded}
use Rattle.flow_cli.specs.Plain.{KeepsDocument, FollowsCallers, HeedsCallers, AgreesThroughout, HasDone, IsPrinted, most_events}

-- it holds of the run that is kept, where one is
abbrev pub OfThreads : Option Threaded → Kept → (Threaded → Doc → List Event → Type 0) → Type 0
OfThreads asked kept Holds = (a : Threaded) (doc : Doc) → asked ≡ Some a → kept.doc ≡ Some doc → Holds a doc kept.journal

-- a legal run of the document's callers and of so many workers and one more for each caller, with these meanings of its bodies, within the limits
pub record IsThreadedRun (meanings : Meanings) (asked : Threaded) (doc : Doc) (es : List Event) : Type 0 where
  pub legal : is_run doc.shape (length doc.scripts) (asked.workers + length doc.scripts) es ≡ true
  pub bodies : KeepsBodies meanings doc.shape es
  pub limits : IsWithinLimits asked.options.items most_events es

-- after a beginning of the journal the event may come next, passes a limit, and keeps scripts and bodies
abbrev pub IsRefusedThen : Meanings → Option Event → Threaded → Doc → List Event → Type 0
IsRefusedThen meanings refused asked doc es = IfSome refused (IsRefusedWithin meanings doc.shape doc.scripts (asked.workers + length doc.scripts) asked.options.items most_events es)

-- ---- what the steps of the command come to

-- what a run of the document on threads keeps
pub record IsThreaded (meanings : Meanings) (asked : Threaded) (doc : Doc) (kept : Kept) : Type 0 where
  pub document : kept.doc ≡ Some doc
  pub live : kept.live ≡ []
  pub legal : IsThreadedRun meanings asked doc kept.journal
  pub refused : IsRefusedThen meanings kept.refused asked doc kept.journal
  pub scripts : FollowsCallers asked.options doc kept.journal
  pub waits : HeedsCallers asked.options doc kept.journal
  pub throughout : AgreesThroughout asked.options doc kept.journal

-- all that the command leaves
pub record IsThreadedAnswer (shelf : List (List ℕ)) (meanings : Meanings) (asked : Option Threaded) (before after : Option (List ℕ)) (kept : Kept) (status : Status) (old new : Option (List ℕ)) : Type 0 where
  pub document : KeepsDocument shelf (option_map (λ a. a.options) asked) before after kept
  pub run : (a : Threaded) (doc : Doc) → asked ≡ Some a → kept.doc ≡ Some doc → IsThreaded meanings a doc kept
  pub printed : IsPrinted shelf (option_map (λ a. a.options) asked) before after kept status old new
  pub done : status ≡ S.Done → HasDone kept
