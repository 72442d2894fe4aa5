-- What a whole run of a determinate document shows.
use Rattle.std.proofs.Common.{◌≡◌, ℕ, Bool, true, false, Option, Some, None, Ok, List, length, refl, subst}
use Rattle.std.specs.Prelude.{IfSome}
use Rattle.flow_item.specs.declared.event.Event.{Event}
use Rattle.flow_item.proofs.Tests.{both_true}
use Rattle.flow_machine.specs.Bodies.{Meanings, bodies_kept}
use Rattle.flow_machine.specs.Machine.{is_run}
use Rattle.flow_determinacy.specs.Singles.{SinglesAnswerOnce}
use Rattle.flow_doc.specs.declared.Doc.{Doc}
use Rattle.flow_doc.specs.declared.Kept.{Kept}
use Rattle.flow_doc.specs.Fits.{doc_fits}
use Rattle.flow_doc.proofs.Fitting.{read_fits}
use Rattle.flow_mean.specs.Determinate.{IsDeterminate}
use Rattle.flow_determinacy.specs.Laws.{follows}
use Rattle.flow_determinacy.proofs.Results.{one-result, section-meant}
use Rattle.flow_print.specs.declared.status.Status.{Status}
use Rattle.flow_print.specs.declared.status.Status.TheVariants as S
use Rattle.flow_report.specs.Sinks.{sink_pairs, sinks_section}
use Rattle.flow_work.specs.Results.{KeepsMeaning}
use Rattle.flow_work.proofs.MeaningLemmas.{kept_whole, done_whole}
use Rattle.flow_cli.specs.declared.input.TheConstants.{OFFERED}
use Rattle.flow_cli.specs.declared.words.Generating.{Generating}
use Rattle.flow_cli.specs.declared.words.Options.{Options}
use Rattle.flow_cli.specs.Check.{meaning_section}
use Rattle.flow_cli.specs.Plain.{IsRead, IsDone}
use Rattle.flow_cli.specs.Steps.{IsAnswer}
use Rattle.flow_cli.specs.Gen.{RunsNumber, KeepsAsked, KeepsGenerated, IsGenAnswer}
use Rattle.flow_gen.proofs.Fitting.{found_fits}
use Rattle.flow_cli.specs.Checked.{ShowsMeaning}
use Rattle.flow_cli.proofs.PlainLemmas.{same_doc}

-- a run of a determinate document that was done shows its meaning
pub shows_meaning : (meanings : Meanings) (bodies workers : ℕ) (doc : Doc) (es : List Event) → doc_fits bodies doc ≡ true → is_run doc.shape (length doc.scripts) workers es ≡ true → bodies_kept meanings doc.shape es ≡ true → IsDone doc es →
    SinglesAnswerOnce meanings → IsDeterminate meanings doc → sinks_section doc.names (sink_pairs doc.shape es) doc.sinks ≡ meaning_section meanings doc
shows_meaning meanings bodies workers doc es fits run kept done singles determined =
    let followed : follows meanings doc workers es ≡ true = both_true (both_true run (kept_whole doc.shape doc.scripts es done.scripts)) kept in
    (one-result meanings doc bodies workers es singles fits determined followed (done_whole doc.shape doc.scripts es done.scripts) done.settled).0

-- where each sink has what the document means, the section shows it
pub section_shown : (meanings : Meanings) (bodies : ℕ) (doc : Doc) (es : List Event) → doc_fits bodies doc ≡ true → KeepsMeaning meanings doc es → IsDeterminate meanings doc → sinks_section doc.names (sink_pairs doc.shape es) doc.sinks ≡ meaning_section meanings doc
section_shown meanings bodies doc es fits keeps determined = section-meant meanings doc bodies (sink_pairs doc.shape es) fits (λ n k at sink. (keeps determined n k at).kept sink)

-- what holds of the document that is there
pub there : (Holds : Doc → Type 0) (o : Option Doc) (d : Doc) → o ≡ Some d → IfSome o Holds → Holds d
there Holds None d p h = cc
there Holds (Some x) d p h = let e : x ≡ d = cc in subst Holds e h

-- what the command `plain` leaves shows it
pub plain_shows : (shelf : List (List ℕ)) (meanings : Meanings) (options : Options) (before after : Option (List ℕ)) (kept : Kept) (status : Status) (old new : Option (List ℕ)) → IsAnswer shelf meanings (Some options) before after kept status old new → status ≡ S.Done → ShowsMeaning meanings kept
plain_shows shelf meanings options before after kept status old new answer same singles doc is determined =
    let legal = answer.legal options doc refl is in
    let done = answer.done same in
    let alike : done.doc ≡ doc = same_doc kept.doc done.doc doc done.is is in
    let whole : IsDone doc kept.journal = subst (λ (d : Doc). IsDone d kept.journal) alike done.done in
    let read = there (λ (d : Doc). IsRead shelf before after (Ok d)) kept.doc doc is answer.document.read in
    shows_meaning meanings (length shelf) 1 doc kept.journal (read_fits OFFERED shelf read.bytes doc read.is) legal.legal legal.bodies whole singles determined

pub unlike_none : (o : Option Doc) (doc : Doc) → o ≡ None → o ≡ Some doc → ⊥
unlike_none None doc p q = cc
unlike_none (Some d) doc p q = cc

-- without a document there is nothing to show
none_shows : (meanings : Meanings) (kept : Kept) → kept.doc ≡ None → ShowsMeaning meanings kept
none_shows meanings kept none singles doc is determined = absurd (unlike_none kept.doc doc none is)

-- what the command `gen` leaves shows it
pub gen_shows : (shelf : List (List ℕ)) (meanings : Meanings) (asked : Option Generating) (kept : Kept) (status : Status) (old new : Option (List ℕ)) → IsGenAnswer shelf meanings asked kept status old new → status ≡ S.Done → ShowsMeaning meanings kept
gen_shows shelf meanings asked kept status old new answer same = by_asked asked refl answer.kept
  where
    by_text : (g : Generating) → asked ≡ Some g → (b : Bool) → g.text ≡ b → KeepsAsked shelf meanings b g.count kept → ShowsMeaning meanings kept
    by_text g is true text keeps = none_shows meanings kept keeps.document
    by_text g is false text keeps = λ singles doc at determined.
        let has = answer.done g is text same in
        let alike : has.doc ≡ doc = same_doc kept.doc has.doc doc has.is at in
        let whole : IsDone doc kept.journal = subst (λ (d : Doc). IsDone d kept.journal) alike has.done in
        let runs = there (λ (d : Doc). RunsNumber shelf meanings g.count d kept.journal) kept.doc doc at keeps.document in
        shows_meaning meanings (length shelf) 1 doc kept.journal (found_fits shelf g.count doc runs.is) runs.run.legal runs.run.bodies whole singles determined

    by_asked : (o : Option Generating) → asked ≡ o → KeepsGenerated shelf meanings o kept → ShowsMeaning meanings kept
    by_asked None is keeps = none_shows meanings kept keeps.document
    by_asked (Some g) is keeps = by_text g is g.text refl keeps
