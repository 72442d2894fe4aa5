use Rattle.std.proofs.Common.{◌∙◌, ap}
use Rattle.flow_pool.proofs.Keeping.{takes, finds}
use Rattle.flow_pool.proofs.entrance.enter.Goals as goal

pub steal_as-requires-clause-rule : goal.steal_as-requires-clause-rule
steal_as-requires-clause-rule g c = (takes _ _ 1 (ap (λ h. h.told) c.loop.invariant.1 ∙ c.requires.told), finds _ _)
