use Rattle.std.proofs.Common.{refl}
use Rattle.flow_crew.proofs.Works.{caller-done, caller-was}
use Rattle.flow_crew.proofs.caller.Caller.leave.Goals as goal

pub returns-in-Ok-clause-of : goal.returns-in-Ok-clause-of
returns-in-Ok-clause-of g c = caller-done _ c.args.graph.now.book.run c.args.graph.now.book.items c.args.graph.now.book.events c.args.self.now.chair c.leave.new.c _ c.requires.of c.in-Ok.ensures.made

pub returns-in-Err-clause-of : goal.returns-in-Err-clause-of
returns-in-Err-clause-of g c = caller-was _ c.args.graph.now.book.run c.args.graph.now.book.items c.args.graph.now.book.events c.args.self.now.chair c.leave.new.c _ c.in-Err.stop (λ es. refl) c.requires.of c.in-Err.ensures.stopped
