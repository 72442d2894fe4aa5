use Rattle.std.proofs.Common.{◌∙◌, ap}
use Rattle.flow_pool.proofs.Keeping.{takes}
use Rattle.flow_pool.proofs.deque.steal.Goals as goal

pub steal_as-requires-clause-takes : goal.steal_as-requires-clause-takes
steal_as-requires-clause-takes g c = takes _ _ 1 (ap (λ h. h.told) c.loop.invariant.1 ∙ c.requires.told)
