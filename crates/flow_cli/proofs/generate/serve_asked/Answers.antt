use Rattle.std.proofs.Common.{map}
use Rattle.flow_cli.proofs.GenLemmas.{answers_text, answers_run_of}
use Rattle.flow_cli.proofs.generate.serve_asked.Goals as goal

pub returns-then-asked-clause-answer : goal.returns-then-asked-clause-answer
returns-then-asked-clause-answer g c = answers_text _ _ c.args.asked _ _ _ _ c.if-asked.true c.requires.none c.requires.fresh (c.print_text.ensures.ended (map (λ b. b.name) c.args.shelf.now.bodies.items) c.requires.bodies)

pub returns-else-asked-clause-answer : goal.returns-else-asked-clause-answer
returns-else-asked-clause-answer g c = answers_run_of _ _ c.args.asked _ _ _ _ c.if-asked.false c.print_run.ensures.kept c.print_run.ensures.done c.print_run.ensures.ended
