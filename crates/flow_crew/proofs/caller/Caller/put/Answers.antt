use Rattle.std.proofs.Common.{refl, arith}
use Rattle.flow_crew.proofs.Seen.{node-within}
use Rattle.flow_crew.proofs.Works.{caller-done, caller-put, calls-done, calls-kept, halted-kept}
use Rattle.flow_crew.proofs.caller.Caller.put.Goals as goal

pub inject-requires-clause-node : goal.inject-requires-clause-node
inject-requires-clause-node g c = let below = node-within c.args.graph.now.book.run.shape c.args.node _ c.requires.port in omega (arith, below)

pub returns-in-Ok-clause-of : goal.returns-in-Ok-clause-of
returns-in-Ok-clause-of g c = caller-done _ c.args.graph.now.book.run c.args.graph.now.book.items c.args.graph.now.book.events c.args.self.now.chair c.put.new.c _ c.requires.of c.in-Ok.ensures.made

pub returns-in-Ok-clause-stays : goal.returns-in-Ok-clause-stays
returns-in-Ok-clause-stays g c = calls-done c.args.graph.now.book.run c.args.self.now.chair c.put.new.c _ c.requires.caller c.in-Ok.ensures.made refl

pub returns-in-Err-clause-of : goal.returns-in-Err-clause-of
returns-in-Err-clause-of g c = caller-put _ c.args.graph.now.book.run c.args.graph.now.book.items c.args.graph.now.book.events c.args.self.now.chair c.put.new.c _ _ _ _ _ c.in-Err.stop c.requires.of c.in-Err.ensures.stopped

pub returns-in-Err-clause-stays : goal.returns-in-Err-clause-stays
returns-in-Err-clause-stays g c = calls-kept c.args.graph.now.book.run c.args.self.now.chair c.put.new.c c.requires.caller (halted-kept c.args.self.now.chair c.put.new.c _ c.in-Err.stop c.in-Err.ensures.stopped)
