use Rattle.std.proofs.Common.{arith}
use Rattle.flow_crew.proofs.graph.Graph.inject.Goals as goal

pub inject-requires-clause-node : goal.inject-requires-clause-node
inject-requires-clause-node g c = omega (arith, c.args.self.now.pooled, c.requires.node)
