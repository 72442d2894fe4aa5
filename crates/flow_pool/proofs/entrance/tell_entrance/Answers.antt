use Rattle.flow_pool.proofs.Keeping.{opens}
use Rattle.flow_pool.proofs.entrance.tell_entrance.Goals as goal

pub another-requires-clause-rule : goal.another-requires-clause-rule
another-requires-clause-rule g c = rw (c.requires.first, c.requires.told) (opens _ c.args.nodes)
