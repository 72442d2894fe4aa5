use Rattle.flow_tests_book.proofs.Nodes.{calls-same}
use Rattle.flow_tests_book.proofs.node.stopped.Goals as goal

pub stopped-requires : goal.stopped-requires
stopped-requires g c = c.requires.kept

pub returns : goal.returns
returns g c = calls-same c.args.book.now.run c.args.book.now.items c.args.book.now.events c.args.c.now c.stopped.new.c c.requires c.stopped.ensures.same
