use Rattle.flow_pool.proofs.Asking.{asked_later}
use Rattle.flow_pool.proofs.pool.Pool.take_elsewhere.Goals as goal

pub returns-in-None-clause-asked : goal.returns-in-None-clause-asked
returns-in-None-clause-asked g c = asked_later _ _ _ _ _ c.in-None.ensures.asked c.ask_others.ensures.asked
