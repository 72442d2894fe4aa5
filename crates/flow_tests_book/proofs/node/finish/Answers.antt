use Rattle.flow_tests_book.proofs.Nodes.{works-ended}
use Rattle.flow_tests_book.proofs.node.finish.Goals as goal

pub returns : goal.returns
returns g c = works-ended c.args.book.now.run c.args.book.now.items c.args.book.now.events c.args.w.now c.finish.new.w c.args.job _ c.requires c.in-Ok.ensures.ended
