use Rattle.flow_crew.proofs.Works.{caller-keeps, caller-same}
use Rattle.flow_crew.proofs.caller.Caller.round.Goals as goal

pub refusal-requires-clause-kept : goal.refusal-requires-clause-kept
refusal-requires-clause-kept g c = λ κs lives. caller-keeps _ c.args.graph.now.book.run c.args.graph.now.book.items c.args.graph.now.book.events c.args.self.now.chair c.requires.of

pub returns-in-Refused-clause-of : goal.returns-in-Refused-clause-of
returns-in-Refused-clause-of g c = caller-same _ c.args.graph.now.book.run c.args.graph.now.book.items c.args.graph.now.book.events c.args.self.now.chair c.refusal.new.c c.requires.of c.refusal.ensures.same
