use Rattle.flow_row.proofs.Calls.{of-book, two-nodes, worker-event, worker-rest, worker-halted, none-starts}
use Rattle.flow_row.proofs.row.serve.Goals as goal

pub serve-requires-clause-of : goal.serve-requires-clause-of
serve-requires-clause-of g c = λ κs lives. of-book c.args.row.now.book.run c.args.row.now.book.items c.args.row.now.book.events c.args.w.now c.args.row.now.run c.args.row.now.limits c.requires.worker.0

pub serve-requires-clause-worker : goal.serve-requires-clause-worker
serve-requires-clause-worker g c = λ κs lives. c.requires.worker.1

pub serve-requires-clause-node : goal.serve-requires-clause-node
serve-requires-clause-node g c = λ κs lives. two-nodes c.args.row.now.book.run c.args.node c.args.row.now.run c.requires.node

pub returns-in-Err : goal.returns-in-Err
returns-in-Err g c = worker-halted c.args.w.now c.serve.new.w _ _ c.in-Err.ensures.stopped c.requires.worker

pub returns-in-Event : goal.returns-in-Event
returns-in-Event g c = worker-event c.args.node c.args.w.now c.serve.new.w c.in-Ok.did _ _ c.in-Ok.ensures.did c.in-Event.is c.requires.worker

pub returns-in-Rest : goal.returns-in-Rest
returns-in-Rest g c = worker-rest c.args.node c.args.w.now c.serve.new.w c.in-Ok.did c.in-Ok.ensures.did c.in-Rest.is c.requires.worker

pub unreachable-requires : goal.unreachable-requires
unreachable-requires g c = none-starts c.args.node c.args.w.now c.serve.new.w c.in-Ok.did _ c.in-Ok.ensures.did c.in-Start.is c.requires.worker
