-- What the command `plain` promises.
use Rattle.std.specs.Prelude.{◌≡◌, ◌≤◌, ◌⊎◌, ⊤, ℕ, Bool, true, false, is_some, IfSome, Option, Some, None, Result, Ok, Err, List, [], ◌∷◌, ◌++◌, length}
use Rattle.flow_item.specs.declared.event.Event.{Event}
use Rattle.flow_machine.specs.Bodies.{Meanings}
use Rattle.flow_machine.specs.Machine.{is_run}
use Rattle.flow_machine.specs.Schedule.{is_scheduled}
use Rattle.flow_machine.specs.Settled.{IsSettled}
use Rattle.flow_doc.specs.declared.Doc.{Doc}
use Rattle.flow_doc.specs.declared.Kept.{Kept}
use Rattle.flow_doc.specs.declared.DocFault.{DocFault}
use Rattle.flow_doc.specs.declared.DocFault.TheVariants as D
use Rattle.flow_doc.specs.Reading.{document}
use Rattle.flow_io.specs.Streams.{Gives, IsAtEnd}
use Rattle.flow_io.specs.Whole.{Took, most_read}
use Rattle.flow_print.specs.declared.status.Status.{Status}
use Rattle.flow_print.specs.declared.status.Status.TheVariants as S
use Rattle.flow_print.specs.Faults.{fault_status}
use Rattle.flow_print.specs.Outputs.{Ending, bad_words, unread, no_memory, bad_document, bad_line, output, IsWritten}
use Rattle.flow_print.specs.Report.{run_status, run_report}
use Rattle.flow_laws.specs.Moments.{IsWithinLimits, AtEachStart, EdgesAgree, HoldsAgree, NodesWithinLimits, LedgerAddsUp}
use Rattle.flow_work.specs.Promises.{FollowsScripts, CompletesScripts, HeedsWaits, KeepsBodies, IsRefusedNext, ItemsHaveOneFate, ItemsHaveLineages, HoldsReserve, NothingIsHeld, ParentsWereBorn}
use Rattle.flow_cli.specs.declared.input.TheConstants.{OFFERED}
use Rattle.flow_cli.specs.declared.words.Options.{Options}

-- the most events of a run
abbrev pub most_events : ℕ
most_events = 32000000

-- ---- what was read

-- all bytes that the source had left were taken, and this is what they are read as, with the names of a shelf
pub record IsRead (shelf : List (List ℕ)) (before after : Option (List ℕ)) (read : Result Doc DocFault) : Type 0 where
  pub bytes : List ℕ
  pub taken : Gives before bytes after
  pub whole : IsAtEnd after
  pub short : length bytes ≤ most_read
  pub is : document OFFERED shelf bytes ≡ read

-- the bytes that were taken are no document by this fault
abbrev pub IsRefused : List (List ℕ) → Option (List ℕ) → Option (List ℕ) → DocFault → Type 0
IsRefused shelf before after D.TooLong = Took before after true
IsRefused shelf before after fault = IsRead shelf before after (Err fault)

-- ---- what is kept

-- a document that is kept is that of all bytes of the source, and the words asked for its run; without one nothing was run
pub record KeepsDocument (shelf : List (List ℕ)) (asked : Option Options) (before after : Option (List ℕ)) (kept : Kept) : Type 0 where
  pub read : IfSome kept.doc (λ doc. IsRead shelf before after (Ok doc))
  pub line : is_some kept.doc ≡ true → is_some asked ≡ true
  pub empty : kept.doc ≡ None → (kept.journal ≡ []) × (kept.refused ≡ None)
  pub live : kept.live ≡ []

-- it holds of the run that is kept, where one is
abbrev pub OfRun : Option Options → Kept → (Options → Doc → List Event → Type 0) → Type 0
OfRun asked kept Holds = (options : Options) (doc : Doc) → asked ≡ Some options → kept.doc ≡ Some doc → Holds options doc kept.journal

-- a legal run of the document's callers and one worker, in the order of one thread, with these meanings of its bodies, within the limits
pub record IsLegalRun (meanings : Meanings) (options : Options) (doc : Doc) (es : List Event) : Type 0 where
  pub legal : is_run doc.shape (length doc.scripts) 1 es ≡ true
  pub scheduled : is_scheduled doc.shape doc.scripts es ≡ true
  pub bodies : KeepsBodies meanings doc.shape es
  pub limits : IsWithinLimits options.items most_events es

-- right after the journal the event may come next, passes a limit, and keeps the bodies
abbrev pub IsRefusedLast : Meanings → Option Event → Options → Doc → List Event → Type 0
IsRefusedLast meanings refused options doc es = IfSome refused (λ e. IsRefusedNext doc.shape doc.scripts options.items most_events es e × KeepsBodies meanings doc.shape (es ++ e ∷ []))

abbrev pub FollowsCallers : Options → Doc → List Event → Type 0
FollowsCallers options doc es = FollowsScripts doc.shape doc.scripts es

abbrev pub HeedsCallers : Options → Doc → List Event → Type 0
HeedsCallers options doc es = HeedsWaits doc.shape doc.scripts es

-- what holds at each moment of the run
pub record AgreesThroughout (options : Options) (doc : Doc) (es : List Event) : Type 0 where
  pub edges : AtEachStart (EdgesAgree doc.shape) es
  pub holds : AtEachStart (HoldsAgree doc.shape) es
  pub limits : AtEachStart (NodesWithinLimits doc.shape) es
  pub ledger : AtEachStart (LedgerAddsUp doc.shape) es
  pub fates : AtEachStart (ItemsHaveOneFate doc.shape) es
  pub lineages : AtEachStart (ItemsHaveLineages doc.shape) es
  pub reservations : HoldsReserve doc.shape es

-- each caller did its whole script, nothing is open and no message can move
pub record IsDone (doc : Doc) (es : List Event) : Type 0 where
  pub scripts : CompletesScripts doc.shape doc.scripts es
  pub settled : IsSettled doc.shape es
  pub released : NothingIsHeld doc.shape es
  pub parents : ParentsWereBorn doc.shape es

-- ---- how it ended

-- a document was run to its end, and no event was refused
pub record HasDone (kept : Kept) : Type 0 where
  pub doc : Doc
  pub is : kept.doc ≡ Some doc
  pub none : kept.refused ≡ None
  pub done : IsDone doc kept.journal

-- a document was run until an event was refused
pub record HasStopped (kept : Kept) : Type 0 where
  pub doc : Doc
  pub is : kept.doc ≡ Some doc
  pub event : Event
  pub refused : kept.refused ≡ Some event

-- Why the command ended with this status. That a source or a sink failed is told by its faults; memory may run out at any point.
abbrev pub IsCaused : List (List ℕ) → Status → Option Options → Option (List ℕ) → Option (List ℕ) → Kept → Type 0
IsCaused shelf S.Done asked before after kept = HasDone kept
IsCaused shelf S.Words asked before after kept = asked ≡ None
IsCaused shelf S.Read asked before after kept = ⊤
IsCaused shelf S.Write asked before after kept = ⊤
IsCaused shelf S.Long asked before after kept = Took before after true
IsCaused shelf S.Syntax asked before after kept = IsRead shelf before after (Err D.Syntax)
IsCaused shelf S.Document asked before after kept = (fault : DocFault) × (fault_status fault ≡ S.Document) × IsRead shelf before after (Err fault)
IsCaused shelf S.Shape asked before after kept = (fault : DocFault) × (fault_status fault ≡ S.Shape) × IsRead shelf before after (Err fault)
IsCaused shelf S.Limit asked before after kept = HasStopped kept
IsCaused shelf S.Memory asked before after kept = ⊤
IsCaused shelf S.Journal asked before after kept = ⊥

-- the status that the bytes ask for
abbrev pub IsDueTo : Result Doc DocFault → Status → Type 0
IsDueTo (Ok doc) status = (status ≡ S.Done) ⊎ (status ≡ S.Limit)
IsDueTo (Err fault) status = status ≡ fault_status fault

-- the status that the words ask for, and where they are a line the bytes that the source has left, if it tells them
abbrev pub IsDue : List (List ℕ) → Option Options → Option (List ℕ) → Status → Type 0
IsDue shelf None left status = status ≡ S.Words
IsDue shelf (Some options) None status = ⊤
IsDue shelf (Some options) (Some bytes) status = IsDueTo (document OFFERED shelf bytes) status

-- ---- what is printed

-- what is to be written, by the words, the bytes and the run that is kept
abbrev pub IsEnding : List (List ℕ) → Option Options → Option (List ℕ) → Option (List ℕ) → Kept → Ending → Type 0
IsEnding shelf asked before after kept bad_words = asked ≡ None
IsEnding shelf asked before after kept unread = is_some asked ≡ true
IsEnding shelf asked before after kept no_memory = ⊤
IsEnding shelf asked before after kept (bad_document fault) = (is_some asked ≡ true) × IsRefused shelf before after fault
IsEnding shelf asked before after kept (bad_line k) = ⊥
IsEnding shelf asked before after kept (output status text) =
    (options : Options) × (asked ≡ Some options) × (is_some kept.doc ≡ true) × (status ≡ run_status kept.refused) × (text ≡ run_report kept options.journal)

-- that is written, as much of it as the status says
pub record IsPrinted (shelf : List (List ℕ)) (asked : Option Options) (before after : Option (List ℕ)) (kept : Kept) (status : Status) (old new : Option (List ℕ)) : Type 0 where
  pub ending : Ending
  pub is : IsEnding shelf asked before after kept ending
  pub written : IsWritten ending status old new
