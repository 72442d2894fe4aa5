use Rattle.std.proofs.Common.{◌≡◌, ◌∙◌, ℕ, true, map, subst, sym}
use Rattle.std.proofs.lemmas.List.{length-map}
use Rattle.flow_doc.specs.Fits.{doc_fits}
use Rattle.flow_doc.proofs.Fitting.{read_fits}
use Rattle.flow_cli.specs.declared.input.TheConstants.{OFFERED}
use Rattle.flow_cli.proofs.Built.{read_is_built, read_is_early}
use Rattle.flow_cli.proofs.MeaningLemmas.{unlike_none}
use Rattle.flow_cli.proofs.ThreadLemmas.{threaded_input, threaded_run, threaded_shows}
use Rattle.flow_cli.proofs.threads_top.threaded_line.Goals as goal

pub run_threaded-requires-clause-fits : goal.run_threaded-requires-clause-fits
run_threaded-requires-clause-fits g c = λ κs outlives. subst (λ (n : ℕ). doc_fits n c.in-Ok.doc ≡ true) (length-map c.args.shelf.now.bodies.items (λ b. b.name) ∙ sym c.requires.bodies) (read_fits OFFERED _ c.in-Ok.ensures.reads.bytes c.in-Ok.doc c.in-Ok.ensures.reads.is)

pub run_threaded-requires-clause-built : goal.run_threaded-requires-clause-built
run_threaded-requires-clause-built g c = λ κs outlives. read_is_built _ c.in-Ok.ensures.reads.bytes c.in-Ok.doc c.in-Ok.ensures.reads.is

pub run_threaded-requires-clause-version : goal.run_threaded-requires-clause-version
run_threaded-requires-clause-version g c = λ κs outlives. read_is_early _ c.in-Ok.ensures.reads.bytes c.in-Ok.doc c.in-Ok.ensures.reads.is

pub returns-in-Ok-clause-answer : goal.returns-in-Ok-clause-answer
returns-in-Ok-clause-answer g c = threaded_run _ _ _ _ _ _ _ _ _ _ c.in-Ok.ensures.reads c.run_threaded.ensures.run c.run_threaded.ensures.ended c.run_threaded.ensures.whole

pub returns-in-Err-clause-answer : goal.returns-in-Err-clause-answer
returns-in-Err-clause-answer g c = threaded_input _ _ _ _ _ c.in-Err.fault _ _ _ _ c.in-Err.ensures.reads c.requires.none c.requires.fresh c.refuse.ensures.ended

pub returns-in-Ok-clause-meaning : goal.returns-in-Ok-clause-meaning
returns-in-Ok-clause-meaning g c = λ done. threaded_shows _ _ c.in-Ok.doc c.run_threaded.new.kept (read_fits OFFERED _ c.in-Ok.ensures.reads.bytes c.in-Ok.doc c.in-Ok.ensures.reads.is) c.run_threaded.ensures.run.document (c.run_threaded.ensures.meaning done)

pub returns-in-Err-clause-meaning : goal.returns-in-Err-clause-meaning
returns-in-Err-clause-meaning g c = λ done doc is determined. absurd (unlike_none _ _ c.requires.none is)
