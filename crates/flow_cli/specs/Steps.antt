-- What the steps of a command come to.
use Rattle.std.specs.Prelude.{◌≡◌, ◌⊎◌, ⊤, ℕ, true, IfSome, Option, Some, None, Result, Ok, Err, List, []}
use Rattle.flow_item.specs.declared.event.Event.{Event}
use Rattle.flow_machine.specs.Bodies.{Meanings}
use Rattle.flow_doc.specs.declared.Doc.{Doc}
use Rattle.flow_doc.specs.declared.Kept.{Kept}
use Rattle.flow_doc.specs.declared.DocFault.TheVariants as D
use Rattle.flow_io.specs.Streams.{Grows, GrowsByPart}
use Rattle.flow_print.specs.declared.status.Status.{Status}
use Rattle.flow_print.specs.declared.status.Status.TheVariants as S
use Rattle.flow_print.specs.Outputs.{Ending, unread, no_memory, bad_document, output, IsWritten}
use Rattle.flow_print.specs.Report.{run_status, run_report}
use Rattle.flow_cli.specs.declared.words.Options.{Options}
use Rattle.flow_cli.specs.declared.input.InputFault.{InputFault}
use Rattle.flow_cli.specs.declared.input.InputFault.TheVariants as I
use Rattle.flow_cli.specs.Plain.{IsRead, IsRefused, KeepsDocument, OfRun, IsLegalRun, IsRefusedLast, FollowsCallers, HeedsCallers, AgreesThroughout, IsDone, HasDone, IsPrinted}

-- what was taken of a source and what it is read as
abbrev pub Reads : List (List ℕ) → Option (List ℕ) → Option (List ℕ) → Result Doc InputFault → Type 0
Reads shelf before after (Ok doc) = IsRead shelf before after (Ok doc)
Reads shelf before after (Err I.Unread) = ⊤
Reads shelf before after (Err (I.Bad D.Memory)) = ⊤
Reads shelf before after (Err (I.Bad fault)) = IsRefused shelf before after fault

-- a text stands written at its status, or a first part of it where writing failed
abbrev pub IsSaid : List ℕ → Status → Status → Option (List ℕ) → Option (List ℕ) → Type 0
IsSaid text own status before after = ((status ≡ own) × Grows before text after) ⊎ ((status ≡ S.Write) × GrowsByPart before text after)

-- it was written by this ending, unless memory ran out first
pub record IsEnded (ending : Ending) (status : Status) (before after : Option (List ℕ)) : Type 0 where
  pub last : Ending
  pub is : (last ≡ ending) ⊎ (last ≡ no_memory)
  pub written : IsWritten last status before after

abbrev pub fault_ending : InputFault → Ending
fault_ending I.Unread = unread
fault_ending (I.Bad D.Memory) = no_memory
fault_ending (I.Bad fault) = bad_document fault

-- the report of what is kept
abbrev pub report_ending : Options → Kept → Ending
report_ending options kept = output (run_status kept.refused) (run_report kept options.journal)

-- what a run of the document keeps
pub record IsRun (meanings : Meanings) (options : Options) (doc : Doc) (kept : Kept) : Type 0 where
  pub document : kept.doc ≡ Some doc
  pub live : kept.live ≡ []
  pub legal : IsLegalRun meanings options doc kept.journal
  pub refused : IsRefusedLast meanings kept.refused options doc kept.journal
  pub scripts : FollowsCallers options doc kept.journal
  pub waits : HeedsCallers options doc kept.journal
  pub throughout : AgreesThroughout options doc kept.journal

-- all that the command leaves
pub record IsAnswer (shelf : List (List ℕ)) (meanings : Meanings) (asked : Option Options) (before after : Option (List ℕ)) (kept : Kept) (status : Status) (old new : Option (List ℕ)) : Type 0 where
  pub document : KeepsDocument shelf asked before after kept
  pub legal : OfRun asked kept (IsLegalRun meanings)
  pub refused : OfRun asked kept (IsRefusedLast meanings kept.refused)
  pub scripts : OfRun asked kept FollowsCallers
  pub waits : OfRun asked kept HeedsCallers
  pub throughout : OfRun asked kept AgreesThroughout
  pub printed : IsPrinted shelf asked before after kept status old new
  pub done : status ≡ S.Done → HasDone kept

-- the run came to its end
pub record IsWhole (doc : Doc) (kept : Kept) : Type 0 where
  pub none : kept.refused ≡ None
  pub done : IsDone doc kept.journal
