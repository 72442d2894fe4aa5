use Rattle.std.proofs.Common.{◌≡◌, ℕ, true, map, subst}
use Rattle.std.proofs.lemmas.List.{length-map}
use Rattle.flow_doc.specs.Fits.{doc_fits}
use Rattle.flow_doc.proofs.Fitting.{read_fits}
use Rattle.flow_cli.specs.declared.input.TheConstants.{OFFERED}
use Rattle.flow_cli.proofs.Built.{read_is_built, read_is_early}
use Rattle.flow_cli.proofs.PlainLemmas.{answers_run}
use Rattle.flow_cli.proofs.top.run_line.Goals as goal

pub run_document-requires-clause-fits : goal.run_document-requires-clause-fits
run_document-requires-clause-fits g c = subst (λ (n : ℕ). doc_fits n c.in-Ok.doc ≡ true) (length-map c.args.shelf.now.bodies.items (λ b. b.name)) (read_fits OFFERED _ c.in-Ok.ensures.reads.bytes c.in-Ok.doc c.in-Ok.ensures.reads.is)

pub run_document-requires-clause-built : goal.run_document-requires-clause-built
run_document-requires-clause-built g c = read_is_built _ c.in-Ok.ensures.reads.bytes c.in-Ok.doc c.in-Ok.ensures.reads.is

pub run_document-requires-clause-version : goal.run_document-requires-clause-version
run_document-requires-clause-version g c = read_is_early _ c.in-Ok.ensures.reads.bytes c.in-Ok.doc c.in-Ok.ensures.reads.is

pub returns-in-Ok-clause-answer : goal.returns-in-Ok-clause-answer
returns-in-Ok-clause-answer g c = answers_run _ _ _ _ _ _ _ _ _ _ c.in-Ok.ensures.reads c.run_document.ensures.run c.run_document.ensures.ended c.run_document.ensures.whole
