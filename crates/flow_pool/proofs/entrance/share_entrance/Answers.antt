use Rattle.flow_pool.proofs.Keeping.{share}
use Rattle.flow_pool.proofs.entrance.share_entrance.Goals as goal

pub another-requires-clause-rule : goal.another-requires-clause-rule
another-requires-clause-rule c = share _ _ c.requires.told
