use Rattle.flow_pool.proofs.Keeping.{pushes}
use Rattle.flow_pool.proofs.deque.push.Goals as goal

pub push_as-requires-clause-pushes : goal.push_as-requires-clause-pushes
push_as-requires-clause-pushes c = pushes _ _ c.args.node c.requires.0 c.requires.1
