use Rattle.std.proofs.Common.{arith}
use Rattle.flow_crew.proofs.worker.Worker.turn.Goals as goal

pub try_tend-requires-clause-node : goal.try_tend-requires-clause-node
try_tend-requires-clause-node g c = omega (arith, c.args.graph.now.pooled, c.in-Some.ensures.node)
