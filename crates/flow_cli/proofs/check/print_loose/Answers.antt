use Rattle.flow_cli.proofs.CheckLemmas.{ended_loose}
use Rattle.flow_cli.proofs.check.print_loose.Goals as goal
use Rattle.std.proofs.Common.{rules}

pub returns-in-Ok-clause-ended : goal.returns-in-Ok-clause-ended
returns-in-Ok-clause-ended g c = ended_loose _ c.as_str.result.now _ _ _ (search rules) c.say.ensures.said
