use Rattle.std.proofs.Common.{rules}
use Rattle.flow_cli.proofs.PlainLemmas.{ended_said}
use Rattle.flow_cli.proofs.lines.refuse_document.Goals as goal

pub returns-in-Ok-clause-ended : goal.returns-in-Ok-clause-ended
returns-in-Ok-clause-ended g c = ended_said c.args.fault.now c.as_str.result.now c.fault_status.result c.say.result _ _ (search rules) c.fault_status.ensures c.say.ensures.said
