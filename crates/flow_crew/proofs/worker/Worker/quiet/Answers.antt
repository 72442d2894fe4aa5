use Rattle.std.proofs.Common.{◌∙◌, sym}
use Rattle.flow_book.proofs.Serves.{same-on}
use Rattle.flow_crew.proofs.Seen.{quiet-ended}
use Rattle.flow_crew.proofs.Works.{worker-same}
use Rattle.flow_crew.proofs.worker.Worker.quiet.Goals as goal

pub returns-clause-of : goal.returns-clause-of
returns-clause-of g c =
    worker-same _ c.args.graph.now.book.run c.args.graph.now.book.items c.args.graph.now.book.events c.args.self.now.chair c.unrest-open.new.c c.args.self.now.busy c.requires.of
    (same-on c.args.self.now.chair c.left-left.new.c c.unrest-open.new.c c.left-left.ensures.same c.unrest-open.ensures.same)

pub returns-clause-ended : goal.returns-clause-ended
returns-clause-ended g c =
    quiet-ended c.args.graph.now.book.run c.args.graph.now.book.items c.args.graph.now.book.events c.args.self.now.chair c.left-left.new.c c.unrest-open.new.c c.left-left.result c.left-left.ensures.same c.unrest-open.ensures.same c.unrest-open.ensures.looks c.requires.of.about
    c.len.ensures.legal c.left-left.ensures.value (c.if-left-graph.false ∙ c.args.graph.now.counted) (sym c.unrest-open.ensures.value ∙ c.if-open-ne0.false)
