use Rattle.flow_pool.proofs.Keeping.{gives}
use Rattle.flow_pool.proofs.entrance.give_entrance.Goals as goal

pub another-requires-clause-rule : goal.another-requires-clause-rule
another-requires-clause-rule c = gives _ _ c.requires.told
