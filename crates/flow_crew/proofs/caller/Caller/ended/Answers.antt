use Rattle.flow_crew.proofs.Works.{caller-keeps}
use Rattle.flow_crew.proofs.caller.Caller.ended.Goals as goal

pub stopped-requires : goal.stopped-requires
stopped-requires g c = caller-keeps _ c.args.graph.now.book.run c.args.graph.now.book.items c.args.graph.now.book.events c.args.self.now.chair c.requires.of
