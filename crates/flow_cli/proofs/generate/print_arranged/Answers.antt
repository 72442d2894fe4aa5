use Rattle.flow_cli.proofs.GenLemmas.{ended_memory}
use Rattle.flow_cli.proofs.PlainLemmas.{are_arranged}
use Rattle.flow_cli.proofs.generate.print_arranged.Goals as goal

pub print_summary-requires-clause-states : goal.print_summary-requires-clause-states
print_summary-requires-clause-states g c = are_arranged c.args.kept.now.doc c.args.kept.now.journal _ _ c.arrange.ensures c.requires.states

pub returns-clause-ended : goal.returns-clause-ended
returns-clause-ended g c = ended_memory _ c.tell_no_memory.result _ _ c.tell_no_memory.ensures.said
