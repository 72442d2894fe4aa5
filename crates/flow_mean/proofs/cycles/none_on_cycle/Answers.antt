use Rattle.flow_mean.proofs.Reached.{acyclic-none}
use Rattle.flow_mean.proofs.cycles.none_on_cycle.Goals as goal

pub returns-clause-first : goal.returns-clause-first
returns-clause-first c = acyclic-none c.args.shape.now c.requires
