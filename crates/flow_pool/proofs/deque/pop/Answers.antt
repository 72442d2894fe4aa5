use Rattle.flow_pool.proofs.Keeping.{takes}
use Rattle.flow_pool.proofs.deque.pop.Goals as goal

pub pop_as-requires-clause-fifo : goal.pop_as-requires-clause-fifo
pop_as-requires-clause-fifo c = λ _. takes _ _ 1 c.requires.1
