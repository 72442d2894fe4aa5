use Rattle.flow_cli.proofs.PlainLemmas.{are_arranged}
use Rattle.flow_cli.proofs.run.print_arranged.Goals as goal

pub print_kept-requires-clause-states : goal.print_kept-requires-clause-states
print_kept-requires-clause-states g c = are_arranged c.args.kept.now.doc c.args.kept.now.journal _ _ c.arrange.ensures c.requires.states
