-- What the command `check` promises.
use Rattle.std.specs.Prelude.{◌≡◌, ◌⊎◌, ⊤, ℕ, true, is_some, IfSome, Option, Some, None, Result, Ok, Err, List}
use Rattle.flow_machine.specs.Bodies.{Meanings}
use Rattle.flow_doc.specs.declared.Doc.{Doc}
use Rattle.flow_doc.specs.declared.Kept.{Kept}
use Rattle.flow_doc.specs.declared.DocFault.{DocFault}
use Rattle.flow_doc.specs.declared.DocFault.TheVariants as D
use Rattle.flow_doc.specs.Reading.{document}
use Rattle.flow_determinacy.specs.Singles.{SinglesAnswerOnce}
use Rattle.flow_mean.specs.Determinate.{IsDeterminate}
use Rattle.flow_io.specs.Whole.{Took}
use Rattle.flow_print.specs.declared.status.Status.{Status}
use Rattle.flow_print.specs.declared.status.Status.TheVariants as S
use Rattle.flow_print.specs.Faults.{fault_status}
use Rattle.flow_report.specs.Sinks.{sink_pairs, sinks_section}
use Rattle.flow_print.specs.Outputs.{Ending, bad_words, unread, no_memory, bad_document, bad_line, output, IsWritten}
use Rattle.flow_work.specs.Promises.{IsFresh}
use Rattle.flow_cli.specs.declared.input.TheConstants.{OFFERED}
use Rattle.flow_cli.specs.Check.{check_text, meaning_section}
use Rattle.flow_cli.specs.Plain.{IsRead, IsRefused}

-- ---- what the commands that run a document show

-- where the document that is kept is determinate, its sinks have what it means
abbrev pub HasMeaning : Meanings → Kept → Type 0
HasMeaning meanings kept =
    (doc : Doc) → kept.doc ≡ Some doc → IsDeterminate meanings doc →
    sinks_section doc.names (sink_pairs doc.shape kept.journal) doc.sinks ≡ meaning_section meanings doc

-- so where each body that is pure and single answers one message
abbrev pub ShowsMeaning : Meanings → Kept → Type 0
ShowsMeaning meanings kept = SinglesAnswerOnce meanings → HasMeaning meanings kept

-- ---- what is kept

-- a document that is kept is that of all bytes of the source, and the words were a line of the command; nothing is run
pub record KeepsChecked (shelf : List (List ℕ)) (asked : Option ⊤) (before after : Option (List ℕ)) (kept : Kept) : Type 0 where
  pub read : IfSome kept.doc (λ doc. IsRead shelf before after (Ok doc))
  pub line : is_some kept.doc ≡ true → is_some asked ≡ true
  pub fresh : IsFresh kept

-- ---- what is printed

-- what is to be written, by the words, the bytes and the document that is kept
abbrev pub IsCheckEnding : List (List ℕ) → Meanings → Option ⊤ → Option (List ℕ) → Option (List ℕ) → Kept → Ending → Type 0
IsCheckEnding shelf meanings asked before after kept bad_words = asked ≡ None
IsCheckEnding shelf meanings asked before after kept unread = is_some asked ≡ true
IsCheckEnding shelf meanings asked before after kept no_memory = ⊤
IsCheckEnding shelf meanings asked before after kept (bad_document fault) = (is_some asked ≡ true) × IsRefused shelf before after fault
IsCheckEnding shelf meanings asked before after kept (bad_line k) = ⊥
IsCheckEnding shelf meanings asked before after kept (output status text) =
    (is_some asked ≡ true) × (status ≡ S.Done) × (doc : Doc) × (kept.doc ≡ Some doc) × (text ≡ check_text meanings doc)

-- that is written, as much of it as the status says
pub record IsCheckPrinted (shelf : List (List ℕ)) (meanings : Meanings) (asked : Option ⊤) (before after : Option (List ℕ)) (kept : Kept) (status : Status) (old new : Option (List ℕ)) : Type 0 where
  pub ending : Ending
  pub is : IsCheckEnding shelf meanings asked before after kept ending
  pub written : IsWritten ending status old new

-- ---- how it ended

-- Why the command ended with this status. That a source or a sink failed is told by its faults; memory may run out at any point.
abbrev pub IsCheckCaused : List (List ℕ) → Status → Option ⊤ → Option (List ℕ) → Option (List ℕ) → Kept → Type 0
IsCheckCaused shelf S.Done asked before after kept = is_some kept.doc ≡ true
IsCheckCaused shelf S.Words asked before after kept = asked ≡ None
IsCheckCaused shelf S.Read asked before after kept = ⊤
IsCheckCaused shelf S.Write asked before after kept = ⊤
IsCheckCaused shelf S.Long asked before after kept = Took before after true
IsCheckCaused shelf S.Syntax asked before after kept = IsRead shelf before after (Err D.Syntax)
IsCheckCaused shelf S.Document asked before after kept = (fault : DocFault) × (fault_status fault ≡ S.Document) × IsRead shelf before after (Err fault)
IsCheckCaused shelf S.Shape asked before after kept = (fault : DocFault) × (fault_status fault ≡ S.Shape) × IsRead shelf before after (Err fault)
IsCheckCaused shelf S.Limit asked before after kept = ⊥
IsCheckCaused shelf S.Memory asked before after kept = ⊤
IsCheckCaused shelf S.Journal asked before after kept = ⊥

-- the status that the bytes ask for
abbrev pub due_status : Result Doc DocFault → Status
due_status (Ok doc) = S.Done
due_status (Err fault) = fault_status fault

-- the status that the words ask for, and where they are a line the bytes that the source has left, if it tells them
abbrev pub IsCheckDue : List (List ℕ) → Option ⊤ → Option (List ℕ) → Status → Type 0
IsCheckDue shelf None left status = status ≡ S.Words
IsCheckDue shelf (Some x) None status = ⊤
IsCheckDue shelf (Some x) (Some bytes) status = status ≡ due_status (document OFFERED shelf bytes)

-- all that the command leaves
pub record IsCheckAnswer (shelf : List (List ℕ)) (meanings : Meanings) (asked : Option ⊤) (before after : Option (List ℕ)) (left : Kept) (status : Status) (old new : Option (List ℕ)) : Type 0 where
  pub kept : KeepsChecked shelf asked before after left
  pub printed : IsCheckPrinted shelf meanings asked before after left status old new
  pub cause : IsCheckCaused shelf status asked before after left
  pub complete : (status ≡ S.Read → ⊥) → (status ≡ S.Write → ⊥) → (status ≡ S.Memory) ⊎ IsCheckDue shelf asked before status
