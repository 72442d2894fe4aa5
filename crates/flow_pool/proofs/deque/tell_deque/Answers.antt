use Rattle.flow_pool.proofs.Keeping.{opens}
use Rattle.flow_pool.proofs.deque.tell_deque.Goals as goal

pub another-requires : goal.another-requires
another-requires g c = rw (c.requires.first, c.requires.told) (opens _ c.args.nodes)
