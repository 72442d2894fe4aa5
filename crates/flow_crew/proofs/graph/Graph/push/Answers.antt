use Rattle.std.proofs.Common.{arith}
use Rattle.flow_crew.proofs.graph.Graph.push.Goals as goal

pub push-requires-clause-node : goal.push-requires-clause-node
push-requires-clause-node g c = omega (arith, c.args.self.now.pooled, c.requires.node)
