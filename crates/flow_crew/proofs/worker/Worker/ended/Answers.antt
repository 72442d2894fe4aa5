use Rattle.flow_book.proofs.Serves.{same-on}
use Rattle.flow_crew.proofs.Works.{worker-keeps, worker-same, worked-kept}
use Rattle.flow_crew.proofs.worker.Worker.ended.Goals as goal

pub stopped-requires : goal.stopped-requires
stopped-requires g c = worker-keeps _ c.args.graph.now.book.run c.args.graph.now.book.items c.args.graph.now.book.events c.args.self.now.chair c.args.self.now.busy c.requires.of

pub returns-in-Some-clause-of : goal.returns-in-Some-clause-of
returns-in-Some-clause-of g c = worker-same _ c.args.graph.now.book.run c.args.graph.now.book.items c.args.graph.now.book.events c.args.self.now.chair c.stopped.new.c c.args.self.now.busy c.requires.of c.stopped.ensures.same

pub returns-in-Some-clause-worked : goal.returns-in-Some-clause-worked
returns-in-Some-clause-worked g c = worked-kept c.args.self.now.chair c.stopped.new.c c.stopped.ensures.same.0

pub returns-in-None-clause-worked : goal.returns-in-None-clause-worked
returns-in-None-clause-worked g c = worked-kept c.args.self.now.chair c.quiet.new.self.chair (same-on c.args.self.now.chair c.stopped.new.c c.quiet.new.self.chair c.stopped.ensures.same c.quiet.ensures.worked).0

pub returns-in-None-clause-same : goal.returns-in-None-clause-same
returns-in-None-clause-same g c = same-on c.args.self.now.chair c.stopped.new.c c.quiet.new.self.chair c.stopped.ensures.same c.quiet.ensures.worked
