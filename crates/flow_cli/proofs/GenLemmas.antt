-- From what the steps of the command `gen` come to, to what it promises.
use Rattle.std.proofs.Common.{◌≡◌, ◌⊎◌, ◌∙◌, ◌<◌, ℕ, Bool, true, false, Option, Some, None, List, [], length, refl, sym, ap, subst, inl, inr, arith}
use Rattle.std.specs.Prelude.{⊤, IfSome}
use Rattle.flow_item.specs.declared.event.Event.{Event}
use Rattle.flow_machine.specs.Bodies.{Meanings}
use Rattle.flow_doc.specs.declared.Doc.{Doc}
use Rattle.flow_doc.specs.declared.Kept.{Kept}
use Rattle.std.specs.List.{list_all}
use Rattle.flow_doc.specs.Fits.{doc_fits}
use Rattle.flow_node.specs.Built.{is_built}
use Rattle.flow_gen.specs.Generated.{generated_from, generated_text, summary}
use Rattle.flow_gen.proofs.Fitting.{found_is, found_fits}
use Rattle.flow_print.specs.declared.status.Status.{Status}
use Rattle.flow_print.specs.declared.status.Status.TheVariants as S
use Rattle.flow_print.specs.Faults.{words_text, memory_text}
use Rattle.flow_print.specs.Outputs.{Ending, bad_words, unread, no_memory, bad_document, bad_line, output, ending_status, IsWritten}
use Rattle.flow_work.specs.Promises.{IsFresh}
use Rattle.flow_cli.specs.declared.words.Generating.{Generating}
use Rattle.flow_cli.specs.Steps.{IsSaid, IsEnded}
use Rattle.flow_cli.specs.Gen.{RunsNumber, KeepsNumber, KeepsNothing, KeepsAsked, KeepsGenerated, HasRun, IsOutput, summary_ending, output_or_none, text_ending, IsGenEnding, IsGenPrinted, HasRunWhole, is_due_to, IsGenAnswer}
use Rattle.flow_cli.proofs.PlainLemmas.{says_words, says_memory, status_of}

-- ---- the document that is found

pub found_early : (shelf : List (List ℕ)) (count : ℕ) (doc : Doc) → generated_from shelf count ≡ Some doc → doc.version < 3
found_early shelf count doc e = let is = found_is shelf count doc e in let one : doc.version ≡ 1 = ap (λ (d : Doc). d.version) is.3 in omega (arith, one)

-- there is code for each of its kinds
pub found_built : (shelf : List (List ℕ)) (count : ℕ) (doc : Doc) → generated_from shelf count ≡ Some doc → list_all is_built doc.shape.nodes ≡ true
found_built shelf count doc e = let is = found_is shelf count doc e in ap (λ (d : Doc). list_all is_built d.shape.nodes) is.3

pub found_runs : (names : List (List ℕ)) (bodies count : ℕ) (doc : Doc) → length names ≡ bodies → generated_from names count ≡ Some doc → doc_fits bodies doc ≡ true
found_runs names bodies count doc same e = subst (λ (n : ℕ). doc_fits n doc ≡ true) same (found_fits names count doc e)

-- ---- what is said

said_output : (text : List ℕ) (status : Status) (old new : Option (List ℕ)) → IsSaid text S.Done status old new → IsWritten (output S.Done text) status old new
said_output text status old new (inl h) = rw h.0 (refl, h.1)
said_output text status old new (inr h) = rw h.0 h.1

pub ended_output : (text : List ℕ) (status : Status) (old new : Option (List ℕ)) → IsSaid text S.Done status old new → IsEnded (output S.Done text) status old new
ended_output text status old new said = record { last = output S.Done text; is = inl refl; written = said_output text status old new said }

pub ended_memory : (ending : Ending) (status : Status) (old new : Option (List ℕ)) → IsSaid memory_text S.Memory status old new → IsEnded ending status old new
ended_memory ending status old new said = record { last = no_memory; is = inr refl; written = says_memory status old new said }

pub ended_summary : (count : ℕ) (o : Option Doc) (doc : Doc) (es : List Event) (text : List ℕ) (status : Status) (old new : Option (List ℕ)) → o ≡ Some doc → text ≡ summary count doc es S.Done → IsSaid text S.Done status old new → IsEnded (summary_ending count o es) status old new
ended_summary count o doc es text status old new is same said =
    subst (λ (u : Option Doc). IsEnded (summary_ending count u es) status old new) (sym is)
    (subst (λ (t : List ℕ). IsEnded (output S.Done t) status old new) same (ended_output text status old new said))

pub ended_text : (shelf : List (List ℕ)) (count : ℕ) (text : List ℕ) (status : Status) (old new : Option (List ℕ)) → generated_text shelf count ≡ Some text → IsSaid text S.Done status old new → IsEnded (text_ending shelf count) status old new
ended_text shelf count text status old new is said =
    subst (λ (o : Option (List ℕ)). IsEnded (output_or_none o) status old new) (sym is) (ended_output text status old new said)

-- ---- statuses

-- of a line of the command
due : (g : Generating) (ending : Ending) (status : Status) (old new : Option (List ℕ)) → (ending_status ending ≡ S.Done) ⊎ (ending_status ending ≡ S.Memory) → IsWritten ending status old new → (status ≡ S.Write → ⊥) → (status ≡ S.Memory) ⊎ (status ≡ is_due_to (Some g))
due g ending status old new ends written writes = by_status (status_of ending status old new written)
  where
    by_ending : status ≡ ending_status ending → (ending_status ending ≡ S.Done) ⊎ (ending_status ending ≡ S.Memory) → (status ≡ S.Memory) ⊎ (status ≡ is_due_to (Some g))
    by_ending e (inl is) = inr (e ∙ is)
    by_ending e (inr is) = inl (e ∙ is)

    by_status : (status ≡ S.Write) ⊎ ((status ≡ S.Memory) ⊎ (status ≡ ending_status ending)) → (status ≡ S.Memory) ⊎ (status ≡ is_due_to (Some g))
    by_status (inl e) = absurd (writes e)
    by_status (inr (inl e)) = inl e
    by_status (inr (inr e)) = by_ending e ends

ends_of_text : (o : Option (List ℕ)) → (ending_status (output_or_none o) ≡ S.Done) ⊎ (ending_status (output_or_none o) ≡ S.Memory)
ends_of_text None = inr refl
ends_of_text (Some text) = inl refl

ends_of_summary : (count : ℕ) (o : Option Doc) (es : List Event) → (ending_status (summary_ending count o es) ≡ S.Done) ⊎ (ending_status (summary_ending count o es) ≡ S.Memory)
ends_of_summary count None es = inr refl
ends_of_summary count (Some doc) es = inl refl

ends_of_last : (ending last : Ending) → (ending_status ending ≡ S.Done) ⊎ (ending_status ending ≡ S.Memory) → (last ≡ ending) ⊎ (last ≡ no_memory) → (ending_status last ≡ S.Done) ⊎ (ending_status last ≡ S.Memory)
ends_of_last ending last ends (inl e) = rw e ends
ends_of_last ending last ends (inr e) = rw e (inr refl)

-- ---- what is left

module _ (shelf : List (List ℕ)) (meanings : Meanings) (g : Generating) (kept : Kept) (status : Status) (old new : Option (List ℕ)) where
  is_last : (ending last : Ending) → IsGenEnding shelf (Some g) kept ending → (last ≡ ending) ⊎ (last ≡ no_memory) → IsGenEnding shelf (Some g) kept last
  is_last ending last is (inl e) = rw e is
  is_last ending last is (inr e) = rw e tt

  is_text : g.text ≡ true → (o : Option (List ℕ)) → generated_text shelf g.count ≡ o → IsGenEnding shelf (Some g) kept (output_or_none o)
  is_text asked None is = tt
  is_text asked (Some text) is = (refl, g, refl, rw asked is)

  is_summary : g.text ≡ false → (o : Option Doc) → kept.doc ≡ o → IsGenEnding shelf (Some g) kept (summary_ending g.count o kept.journal)
  is_summary asked None is = tt
  is_summary asked (Some doc) is = (refl, g, refl, rw asked (doc, is, refl))

  same_text : (h : Generating) → Some g ≡ Some h → g.text ≡ h.text
  same_text h e = let same : g ≡ h = cc in ap (λ (x : Generating). x.text) same

  unlike : (b : Bool) → b ≡ true → b ≡ false → ⊥
  unlike true p q = cc
  unlike false p q = cc

  -- the text was asked for
  pub answers_text : g.text ≡ true → kept.doc ≡ None → IsFresh kept → IsEnded (text_ending shelf g.count) status old new → IsGenAnswer shelf meanings (Some g) kept status old new
  answers_text asked none fresh ended = record {
    kept = (rw asked (record { document = none; fresh = fresh }));
    printed = record { ending = ended.last; is = is_last (text_ending shelf g.count) ended.last (is_text asked (generated_text shelf g.count) refl) ended.is; written = ended.written };
    done = λ h e f d. absurd (unlike h.text (sym (same_text h e) ∙ asked) f);
    complete = λ writes. due g ended.last status old new (ends_of_last (text_ending shelf g.count) ended.last (ends_of_text (generated_text shelf g.count)) ended.is) ended.written writes;
  }

  -- a run was asked for
  pub answers_run_of : g.text ≡ false → KeepsNumber shelf meanings g.count kept → (status ≡ S.Done → HasRun kept) → IsEnded (summary_ending g.count kept.doc kept.journal) status old new → IsGenAnswer shelf meanings (Some g) kept status old new
  answers_run_of asked keeps done ended = record {
    kept = (rw asked keeps);
    printed = record { ending = ended.last; is = is_last (summary_ending g.count kept.doc kept.journal) ended.last (is_summary asked kept.doc refl) ended.is; written = ended.written };
    done = λ h e f d. done d;
    complete = λ writes. due g ended.last status old new (ends_of_last (summary_ending g.count kept.doc kept.journal) ended.last (ends_of_summary g.count kept.doc kept.journal) ended.is) ended.written writes;
  }

module _ (shelf : List (List ℕ)) (meanings : Meanings) (asked : Option Generating) (kept : Kept) (status : Status) (old new : Option (List ℕ)) (none : kept.doc ≡ None) (fresh : IsFresh kept) where
  nothing : KeepsNothing kept
  nothing = record { document = none; fresh = fresh }

  kept_by : (b : Bool) (count : ℕ) → KeepsAsked shelf meanings b count kept
  kept_by true count = nothing
  kept_by false count = record { document = (rw none tt); empty = λ e. fresh.journal; refused = fresh.refused; live = fresh.live }

  kept_of : (o : Option Generating) → KeepsGenerated shelf meanings o kept
  kept_of None = nothing
  kept_of (Some g) = kept_by g.text g.count

  -- words that are no line
  pub answers_no_line : asked ≡ None → (text : List ℕ) → text ≡ words_text → IsSaid text S.Words status old new → IsGenAnswer shelf meanings asked kept status old new
  answers_no_line bad text same told = let said : IsSaid words_text S.Words status old new = subst (λ (t : List ℕ). IsSaid t S.Words status old new) same told in record {
    kept = kept_of asked;
    printed = record { ending = bad_words; is = bad; written = says_words status old new said };
    done = λ h e f d. absurd (unlike asked h bad e);
    complete = λ writes. by_said writes said;
  }
    where
      unlike : (o : Option Generating) (h : Generating) → o ≡ None → o ≡ Some h → ⊥
      unlike None h p q = cc
      unlike (Some g) h p q = cc

      by_said : (status ≡ S.Write → ⊥) → IsSaid words_text S.Words status old new → (status ≡ S.Memory) ⊎ (status ≡ is_due_to asked)
      by_said writes (inl h) = inr (h.0 ∙ ap is_due_to (sym bad))
      by_said writes (inr h) = absurd (writes h.0)

  -- memory ran out before the words were read
  pub answers_unread : IsSaid memory_text S.Memory status old new → IsGenAnswer shelf meanings asked kept status old new
  answers_unread said = record {
    kept = kept_of asked;
    printed = record { ending = no_memory; is = tt; written = says_memory status old new said };
    done = λ h e f d. absurd (not_done d said);
    complete = λ writes. by_said writes said;
  }
    where
      not_done : status ≡ S.Done → IsSaid memory_text S.Memory status old new → ⊥
      not_done d (inl h) = let never : S.Done ≡ S.Memory = sym d ∙ h.0 in cc
      not_done d (inr h) = let never : S.Done ≡ S.Write = sym d ∙ h.0 in cc

      by_said : (status ≡ S.Write → ⊥) → IsSaid memory_text S.Memory status old new → (status ≡ S.Memory) ⊎ (status ≡ is_due_to asked)
      by_said writes (inl h) = inl h.0
      by_said writes (inr h) = absurd (writes h.0)

-- ---- what the status isn't

pub never_read : (shelf : List (List ℕ)) (meanings : Meanings) (asked : Option Generating) (kept : Kept) (status : Status) (old new : Option (List ℕ)) → IsGenAnswer shelf meanings asked kept status old new → status ≡ S.Read → ⊥
never_read shelf meanings asked kept status old new answer reads = by_due asked (answer.complete (λ e. let never : S.Read ≡ S.Write = sym reads ∙ e in cc))
  where
    by_due : (o : Option Generating) → (status ≡ S.Memory) ⊎ (status ≡ is_due_to o) → ⊥
    by_due o (inl e) = let never : S.Read ≡ S.Memory = sym reads ∙ e in cc
    by_due None (inr e) = let never : S.Read ≡ S.Words = sym reads ∙ e in cc
    by_due (Some g) (inr e) = let never : S.Read ≡ S.Done = sym reads ∙ e in cc
