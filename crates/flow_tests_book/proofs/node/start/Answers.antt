use Rattle.flow_tests_book.proofs.Nodes.{one-there, runs-told}
use Rattle.flow_tests_book.proofs.node.start.Goals as goal

pub serve-requires-clause-of : goal.serve-requires-clause-of
serve-requires-clause-of g c = λ κs lives. c.requires.worker.about

pub serve-requires-clause-worker : goal.serve-requires-clause-worker
serve-requires-clause-worker g c = λ κs lives. c.requires.worker.idle

pub serve-requires-clause-node : goal.serve-requires-clause-node
serve-requires-clause-node g c = λ κs lives. one-there c.args.book.now.run.shape c.requires.node

pub returns : goal.returns
returns g c = runs-told c.args.book.now.run c.args.book.now.items c.args.book.now.events 0 c.args.w.now c.serve.new.w c.in-Ok.did _ c.requires.worker c.in-Ok.ensures.did c.in-Start.is
