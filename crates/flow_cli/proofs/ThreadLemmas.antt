-- From what the steps of the command `run` come to, to what it promises.
use Rattle.std.proofs.Common.{◌≡◌, ℕ, true, Option, Some, None, Ok, Err, List, [], option_map, subst, refl, inr}
use Rattle.std.specs.Prelude.{IfSome}
use Rattle.std.specs.List.{list_all}
use Rattle.flow_machine.specs.Bodies.{Meanings}
use Rattle.flow_node.specs.Built.{is_built}
use Rattle.flow_node.specs.Readied.{Readied}
use Rattle.flow_doc.specs.declared.Doc.{Doc}
use Rattle.flow_doc.specs.declared.Kept.{Kept}
use Rattle.flow_doc.specs.Fits.{doc_fits}
use Rattle.flow_print.specs.declared.status.Status.{Status}
use Rattle.flow_print.specs.declared.status.Status.TheVariants as S
use Rattle.flow_print.specs.Faults.{words_text, memory_text}
use Rattle.flow_print.specs.Outputs.{Ending, no_memory}
use Rattle.flow_print.specs.Replayed.{AreStates, IsBuilt}
use Rattle.flow_work.specs.Plain.{AreNodesAfter}
use Rattle.flow_work.specs.Promises.{IsFresh}
use Rattle.flow_work.specs.Results.{KeepsMeaning}
use Rattle.flow_cli.specs.declared.input.InputFault.{InputFault}
use Rattle.flow_cli.specs.declared.threads_words.Threaded.{Threaded}
use Rattle.flow_cli.specs.declared.words.Options.{Options}
use Rattle.flow_cli.specs.Checked.{HasMeaning}
use Rattle.flow_cli.specs.Plain.{IsRead}
use Rattle.flow_cli.specs.Steps.{IsAnswer, IsEnded, IsSaid, IsWhole, Reads, fault_ending, report_ending}
use Rattle.flow_cli.specs.Threads.{IsThreaded, IsThreadedAnswer}
use Rattle.flow_cli.proofs.MeaningLemmas.{section_shown, unlike_none}
use Rattle.flow_cli.proofs.PlainLemmas.{answers_input, answers_memory, answers_words, keeps_read, prints_run, same_doc, says_memory}

pub built_kept : (doc : Doc) (kept : Kept) → kept.doc ≡ Some doc → list_all is_built doc.shape.nodes ≡ true → IsBuilt kept.doc
built_kept doc kept is built = rw is built

-- the nodes after the journal of the document that is kept
pub states_kept : (doc : Doc) (kept : Kept) (o : Option (List Readied)) → kept.doc ≡ Some doc → IfSome o (AreNodesAfter doc.shape kept.journal) → IfSome o (AreStates kept.doc kept.journal)
states_kept doc kept o is h = rw is h

-- where memory ran out before anything was written
pub ended_memory : (ending : Ending) (status : Status) (old new : Option (List ℕ)) → IsSaid memory_text S.Memory status old new → IsEnded ending status old new
ended_memory ending status old new said = record { last = no_memory; is = inr refl; written = says_memory status old new said }

abbrev options_in : Option Threaded → Option Options
options_in asked = option_map (λ a. a.options) asked

-- without a document nothing was run
threaded_without : (shelf : List (List ℕ)) (meanings : Meanings) (asked : Option Threaded) (before after : Option (List ℕ)) (kept : Kept) (status : Status) (old new : Option (List ℕ)) → kept.doc ≡ None → IsAnswer shelf meanings (options_in asked) before after kept status old new → IsThreadedAnswer shelf meanings asked before after kept status old new
threaded_without shelf meanings asked before after kept status old new none a = record {
  document = a.document;
  run = λ x doc p q. absurd (unlike_none kept.doc doc none q);
  printed = a.printed;
  done = a.done;
}

no_options : (asked : Option Threaded) → asked ≡ None → options_in asked ≡ None
no_options asked none = rw none refl

-- words that are no line
pub threaded_words : (shelf : List (List ℕ)) (meanings : Meanings) (before : Option (List ℕ)) (asked : Option Threaded) (kept : Kept) (status : Status) (old new : Option (List ℕ)) → asked ≡ None → kept.doc ≡ None → IsFresh kept → IsSaid words_text S.Words status old new → IsThreadedAnswer shelf meanings asked before before kept status old new
threaded_words shelf meanings before asked kept status old new bad none fresh said =
    threaded_without shelf meanings asked before before kept status old new none (answers_words shelf meanings before (options_in asked) kept status old new (no_options asked bad) none fresh said)

-- memory ran out before anything was read
pub threaded_memory : (shelf : List (List ℕ)) (meanings : Meanings) (before : Option (List ℕ)) (asked : Option Threaded) (kept : Kept) (status : Status) (old new : Option (List ℕ)) → kept.doc ≡ None → IsFresh kept → IsSaid memory_text S.Memory status old new → IsThreadedAnswer shelf meanings asked before before kept status old new
threaded_memory shelf meanings before asked kept status old new none fresh said =
    threaded_without shelf meanings asked before before kept status old new none (answers_memory shelf meanings before (options_in asked) kept status old new none fresh said)

-- the source gave no document
pub threaded_input : (shelf : List (List ℕ)) (meanings : Meanings) (before after : Option (List ℕ)) (asked : Threaded) (fault : InputFault) (kept : Kept) (status : Status) (old new : Option (List ℕ)) → Reads shelf before after (Err fault) → kept.doc ≡ None → IsFresh kept → IsEnded (fault_ending fault) status old new → IsThreadedAnswer shelf meanings (Some asked) before after kept status old new
threaded_input shelf meanings before after asked fault kept status old new reads none fresh ended =
    threaded_without shelf meanings (Some asked) before after kept status old new none (answers_input shelf meanings before after asked.options fault kept status old new reads none fresh ended)

-- a document was run
pub threaded_run : (shelf : List (List ℕ)) (meanings : Meanings) (before after : Option (List ℕ)) (asked : Threaded) (doc : Doc) (kept : Kept) (status : Status) (old new : Option (List ℕ)) → IsRead shelf before after (Ok doc) → IsThreaded meanings asked doc kept → IsEnded (report_ending asked.options kept) status old new → (status ≡ S.Done → IsWhole doc kept) → IsThreadedAnswer shelf meanings (Some asked) before after kept status old new
threaded_run shelf meanings before after asked doc kept status old new read run ended whole = record {
  document = keeps_read shelf before after asked.options doc kept read run.document run.live;
  run = λ a d p q. subst (λ (x : Doc). IsThreaded meanings a x kept) (same_doc kept.doc doc d run.document q) (subst (λ (x : Threaded). IsThreaded meanings x doc kept) (same_asked a p) run);
  printed = prints_run shelf before after asked.options doc kept status old new run.document ended;
  done = λ same. record { doc = doc; is = run.document; none = (whole same).none; done = (whole same).done };
}
  where
    same_asked : (a : Threaded) → Some asked ≡ Some a → asked ≡ a
    same_asked a e = cc

-- what is kept shows what the document means
pub threaded_shows : (meanings : Meanings) (bodies : ℕ) (doc : Doc) (kept : Kept) → doc_fits bodies doc ≡ true → kept.doc ≡ Some doc → KeepsMeaning meanings doc kept.journal → HasMeaning meanings kept
threaded_shows meanings bodies doc kept fits is keeps d at determined =
    let alike : doc ≡ d = same_doc kept.doc doc d is at in
    section_shown meanings bodies d kept.journal (subst (λ (x : Doc). doc_fits bodies x ≡ true) alike fits) (subst (λ (x : Doc). KeepsMeaning meanings x kept.journal) alike keeps) determined
