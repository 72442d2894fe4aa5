use Rattle.flow_crew.proofs.Seen.{finish-worker, finish-worked}
use Rattle.flow_crew.proofs.worker.Worker.end.Goals as goal

pub returns-clause-of : goal.returns-clause-of
returns-clause-of g c =
    finish-worker c.args.graph.now.book.run c.args.self.now.chair c.finish.new.w c.args.job c.args.outs _ c.args.graph.now.book.items c.args.graph.now.book.events c.finish.result c.is_ok-ended.result c.is_ok-ended.ensures.value c.requires.of c.requires.begun c.args.graph.now.built
    c.requires.answers c.len.ensures.legal c.own_len.ensures.own c.finish.ensures.ended c.finish.ensures.stopped

pub returns-clause-worked : goal.returns-clause-worked
returns-clause-worked g c = finish-worked c.args.graph.now.book.run c.args.self.now.chair c.finish.new.w c.args.job c.args.outs c.finish.result c.finish.ensures.ended c.finish.ensures.stopped
