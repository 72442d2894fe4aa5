use Rattle.std.proofs.Common.{rules}
use Rattle.flow_cli.proofs.GenLemmas.{ended_summary, ended_memory}
use Rattle.flow_cli.proofs.generate.print_summary.Goals as goal

pub returns-in-Ok-clause-ended : goal.returns-in-Ok-clause-ended
returns-in-Ok-clause-ended g c = ended_summary c.args.count c.args.kept.now.doc c.in-Some.doc c.args.kept.now.journal c.as_str.result.now c.say.result _ _ (search rules) (search rules) c.say.ensures.said

pub returns-in-Err-clause-ended : goal.returns-in-Err-clause-ended
returns-in-Err-clause-ended g c = ended_memory _ c.tell_no_memory.result _ _ c.tell_no_memory.ensures.said
