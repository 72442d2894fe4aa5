use Rattle.flow_pool.proofs.Keeping.{pushes}
use Rattle.flow_pool.proofs.entrance.inject.Goals as goal

pub push_as-requires-clause-rule : goal.push_as-requires-clause-rule
push_as-requires-clause-rule g c = pushes _ _ c.args.node c.requires.node.0 c.requires.node.1
