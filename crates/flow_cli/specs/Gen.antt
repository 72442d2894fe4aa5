-- What the command `gen` promises.
use Rattle.std.specs.Prelude.{◌≡◌, ◌⊎◌, ⊤, ℕ, Bool, true, false, IfSome, Option, Some, None, List, [], length}
use Rattle.flow_item.specs.declared.event.Event.{Event}
use Rattle.flow_machine.specs.Bodies.{Meanings}
use Rattle.flow_machine.specs.Machine.{is_run}
use Rattle.flow_machine.specs.Schedule.{is_scheduled}
use Rattle.flow_doc.specs.declared.Doc.{Doc}
use Rattle.flow_doc.specs.declared.Kept.{Kept}
use Rattle.flow_gen.specs.Generated.{generated_from, generated_text, summary}
use Rattle.flow_laws.specs.Moments.{AtEachStart, EdgesAgree, HoldsAgree, NodesWithinLimits, LedgerAddsUp}
use Rattle.flow_print.specs.declared.status.Status.{Status}
use Rattle.flow_print.specs.declared.status.Status.TheVariants as S
use Rattle.flow_print.specs.Outputs.{Ending, bad_words, unread, no_memory, bad_document, bad_line, output, IsWritten}
use Rattle.flow_work.specs.Promises.{IsFresh, FollowsScripts, HeedsWaits, KeepsBodies, ItemsHaveOneFate, ItemsHaveLineages, HoldsReserve}
use Rattle.flow_cli.specs.declared.words.Generating.{Generating}
use Rattle.flow_cli.specs.Plain.{IsDone}

-- ---- what is kept

-- a legal run of the document's callers and one worker, in the order of one thread, with these meanings of its bodies, and what holds at each moment of it
pub record IsGeneratedRun (meanings : Meanings) (doc : Doc) (es : List Event) : Type 0 where
  pub legal : is_run doc.shape (length doc.scripts) 1 es ≡ true
  pub scheduled : is_scheduled doc.shape doc.scripts es ≡ true
  pub bodies : KeepsBodies meanings doc.shape es
  pub scripts : FollowsScripts doc.shape doc.scripts es
  pub waits : HeedsWaits doc.shape doc.scripts es
  pub edges : AtEachStart (EdgesAgree doc.shape) es
  pub holds : AtEachStart (HoldsAgree doc.shape) es
  pub limits : AtEachStart (NodesWithinLimits doc.shape) es
  pub ledger : AtEachStart (LedgerAddsUp doc.shape) es
  pub fates : AtEachStart (ItemsHaveOneFate doc.shape) es
  pub lineages : AtEachStart (ItemsHaveLineages doc.shape) es
  pub reservations : HoldsReserve doc.shape es

-- the document is that of the number, and was run
pub record RunsNumber (shelf : List (List ℕ)) (meanings : Meanings) (count : ℕ) (doc : Doc) (es : List Event) : Type 0 where
  pub is : generated_from shelf count ≡ Some doc
  pub run : IsGeneratedRun meanings doc es

-- A document that is kept is that of the number, and was run; without one nothing was run. No event is refused.
pub record KeepsNumber (shelf : List (List ℕ)) (meanings : Meanings) (count : ℕ) (kept : Kept) : Type 0 where
  pub document : IfSome kept.doc (λ doc. RunsNumber shelf meanings count doc kept.journal)
  pub empty : kept.doc ≡ None → kept.journal ≡ []
  pub refused : kept.refused ≡ None
  pub live : kept.live ≡ []

-- nothing is kept
pub record KeepsNothing (kept : Kept) : Type 0 where
  pub document : kept.doc ≡ None
  pub fresh : IsFresh kept

-- the text of a document is printed without a run
abbrev pub KeepsAsked : List (List ℕ) → Meanings → Bool → ℕ → Kept → Type 0
KeepsAsked shelf meanings true count kept = KeepsNothing kept
KeepsAsked shelf meanings false count kept = KeepsNumber shelf meanings count kept

-- what is kept, by the words
abbrev pub KeepsGenerated : List (List ℕ) → Meanings → Option Generating → Kept → Type 0
KeepsGenerated shelf meanings None kept = KeepsNothing kept
KeepsGenerated shelf meanings (Some g) kept = KeepsAsked shelf meanings g.text g.count kept

-- the document was run to its end: each caller did its whole script, nothing is open and no message can move
pub record HasRun (kept : Kept) : Type 0 where
  pub doc : Doc
  pub is : kept.doc ≡ Some doc
  pub done : IsDone doc kept.journal

-- ---- what is printed

-- the text of the document where that is asked for, else the summary of the run that is kept
abbrev pub IsOutput : Bool → List (List ℕ) → ℕ → Kept → List ℕ → Type 0
IsOutput true shelf count kept text = generated_text shelf count ≡ Some text
IsOutput false shelf count kept text = (doc : Doc) × (kept.doc ≡ Some doc) × (text ≡ summary count doc kept.journal S.Done)

-- the summary of the run that is kept, where one is
abbrev pub summary_ending : ℕ → Option Doc → List Event → Ending
summary_ending count None es = no_memory
summary_ending count (Some doc) es = output S.Done (summary count doc es S.Done)

abbrev pub output_or_none : Option (List ℕ) → Ending
output_or_none None = no_memory
output_or_none (Some text) = output S.Done text

-- the text of a number's document
abbrev pub text_ending : List (List ℕ) → ℕ → Ending
text_ending shelf count = output_or_none (generated_text shelf count)

-- what is to be written, by the words and the run that is kept
abbrev pub IsGenEnding : List (List ℕ) → Option Generating → Kept → Ending → Type 0
IsGenEnding shelf asked kept bad_words = asked ≡ None
IsGenEnding shelf asked kept no_memory = ⊤
IsGenEnding shelf asked kept (output status text) = (status ≡ S.Done) × (g : Generating) × (asked ≡ Some g) × IsOutput g.text shelf g.count kept text
IsGenEnding shelf asked kept ending = ⊥

-- that is written, as much of it as the status says
pub record IsGenPrinted (shelf : List (List ℕ)) (asked : Option Generating) (kept : Kept) (status : Status) (old new : Option (List ℕ)) : Type 0 where
  pub ending : Ending
  pub is : IsGenEnding shelf asked kept ending
  pub written : IsWritten ending status old new

-- ---- how it ended

-- where a run was asked for and the status is that of all done, it came to its end
abbrev pub HasRunWhole : Option Generating → Status → Kept → Type 0
HasRunWhole asked status kept = (g : Generating) → asked ≡ Some g → g.text ≡ false → status ≡ S.Done → HasRun kept

-- the status that the words ask for
abbrev pub is_due_to : Option Generating → Status
is_due_to None = S.Words
is_due_to (Some g) = S.Done

-- all that the command leaves
pub record IsGenAnswer (shelf : List (List ℕ)) (meanings : Meanings) (asked : Option Generating) (left : Kept) (status : Status) (old new : Option (List ℕ)) : Type 0 where
  pub kept : KeepsGenerated shelf meanings asked left
  pub printed : IsGenPrinted shelf asked left status old new
  pub done : HasRunWhole asked status left
  pub complete : (status ≡ S.Write → ⊥) → (status ≡ S.Memory) ⊎ (status ≡ is_due_to asked)
