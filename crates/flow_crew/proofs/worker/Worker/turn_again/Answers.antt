use Rattle.std.proofs.Common.{arith}
use Rattle.flow_crew.proofs.Turns.{free-post, turned-none}
use Rattle.flow_crew.proofs.worker.Worker.turn_again.Goals as goal

pub try_tend-requires-clause-free : goal.try_tend-requires-clause-free
try_tend-requires-clause-free g c =
    λ κs lives. free-post _ c.args.graph.now.book.run c.args.graph.now.book.items c.args.graph.now.book.events c.args.graph.now.pool c.args.self.now.chair c.args.self.now.post c.take.new.post c.args.self.now.busy c.requires.free c.take.ensures.same.0

pub try_tend-requires-clause-node : goal.try_tend-requires-clause-node
try_tend-requires-clause-node g c = omega (arith, c.args.graph.now.pooled, c.in-Some.ensures.node)

pub returns-in-None : goal.returns-in-None
returns-in-None g c =
    turned-none _ c.args.graph.now.book.run c.args.graph.now.book.items c.args.graph.now.book.events c.args.graph.now.pool c.args.self.now.chair c.args.self.now.post c.take.new.post c.args.self.now.busy _ c.requires.free c.take.ensures.same.0
