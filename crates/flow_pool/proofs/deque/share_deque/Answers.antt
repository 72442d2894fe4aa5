use Rattle.flow_pool.proofs.Keeping.{share}
use Rattle.flow_pool.proofs.deque.share_deque.Goals as goal

pub another-requires : goal.another-requires
another-requires c = share _ _ c.requires
