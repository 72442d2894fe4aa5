use Rattle.flow_pool.proofs.Keeping.{starts}
use Rattle.flow_pool.proofs.deque.open_deque.Goals as goal

pub fifo_as-requires : goal.fifo_as-requires
fifo_as-requires c = starts
