use Rattle.flow_crew.proofs.Works.{caller-keeps, caller-same, worked-none}
use Rattle.flow_crew.proofs.caller.Caller.wait_for_all.Goals as goal

pub refusal-requires-clause-kept : goal.refusal-requires-clause-kept
refusal-requires-clause-kept g c = λ κs lives. caller-keeps _ c.args.graph.now.book.run c.args.graph.now.book.items c.args.graph.now.book.events c.args.self.now.chair c.requires.of

pub returns-then-self-clause-of : goal.returns-then-self-clause-of
returns-then-self-clause-of g c = caller-same _ c.args.graph.now.book.run c.args.graph.now.book.items c.args.graph.now.book.events c.args.self.now.chair c.refusal.new.c c.requires.of c.refusal.ensures.same

pub returns-then-self-clause-worked : goal.returns-then-self-clause-worked
returns-then-self-clause-worked g c = worked-none c.args.self.now.worker.chair
