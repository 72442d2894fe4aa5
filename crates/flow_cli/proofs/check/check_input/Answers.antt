use Rattle.std.proofs.Common.{◌≡◌, ℕ, true, map, refl, subst}
use Rattle.std.proofs.lemmas.List.{length-map}
use Rattle.flow_doc.specs.Fits.{doc_fits}
use Rattle.flow_doc.proofs.Fitting.{read_fits}
use Rattle.flow_cli.specs.declared.input.TheConstants.{OFFERED}
use Rattle.flow_cli.proofs.Built.{read_is_built}
use Rattle.flow_cli.proofs.CheckLemmas.{answers_checked, answers_input}
use Rattle.flow_cli.proofs.check.check_input.Goals as goal

pub check_kept-requires-clause-fits : goal.check_kept-requires-clause-fits
check_kept-requires-clause-fits g c = subst (λ (n : ℕ). doc_fits n c.in-Ok.doc ≡ true) (length-map c.args.shelf.now.bodies.items (λ b. b.name)) (read_fits OFFERED _ c.in-Ok.ensures.reads.bytes c.in-Ok.doc c.in-Ok.ensures.reads.is)

pub check_kept-requires-clause-built : goal.check_kept-requires-clause-built
check_kept-requires-clause-built g c = read_is_built _ c.in-Ok.ensures.reads.bytes c.in-Ok.doc c.in-Ok.ensures.reads.is

pub returns-in-Ok-clause-answer : goal.returns-in-Ok-clause-answer
returns-in-Ok-clause-answer g c = answers_checked _ _ _ _ _ _ _ _ _ refl c.in-Ok.doc c.in-Ok.ensures.reads c.check_kept.ensures.kept c.check_kept.ensures.fresh c.check_kept.ensures.ended

pub returns-in-Err-clause-answer : goal.returns-in-Err-clause-answer
returns-in-Err-clause-answer g c = answers_input _ _ _ _ _ _ _ _ _ refl c.requires.none c.requires.fresh c.in-Err.fault c.in-Err.ensures.reads c.refuse.ensures.ended
