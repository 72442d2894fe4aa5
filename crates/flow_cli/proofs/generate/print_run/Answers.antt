use Rattle.flow_cli.proofs.GenLemmas.{ended_memory}
use Rattle.flow_cli.proofs.generate.print_run.Goals as goal

pub returns-in-Err-clause-ended : goal.returns-in-Err-clause-ended
returns-in-Err-clause-ended g c = ended_memory _ c.tell_no_memory.result _ _ c.tell_no_memory.ensures.said
