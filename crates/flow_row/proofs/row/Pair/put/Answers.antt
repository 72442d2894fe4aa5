use Rattle.flow_row.proofs.Calls.{of-book, calls-book, puts-book, caller-put}
use Rattle.flow_row.proofs.row.Pair.put.Goals as goal

pub put-requires-clause-of : goal.put-requires-clause-of
put-requires-clause-of g c = λ κs lives. of-book c.args.row.now.book.run c.args.row.now.book.items c.args.row.now.book.events c.args.self.now.caller c.args.row.now.run c.args.row.now.limits c.args.self.now.caller_of

pub put-requires-clause-caller : goal.put-requires-clause-caller
put-requires-clause-caller g c = λ κs lives. calls-book c.args.row.now.book.run c.args.self.now.caller c.args.row.now.run (c.args.self.now.caller_of, c.args.self.now.calls)

pub put-requires-clause-port : goal.put-requires-clause-port
put-requires-clause-port g c = λ κs lives. puts-book c.args.row.now.book.run c.args.row.now.run

pub invariant_of-self : goal.invariant_of-self
invariant_of-self g c =
    let on = caller-put c.args.self.now.caller c.put.new.c c.put.result _ _ _ _ _ _ c.put.ensures.made c.put.ensures.stopped (c.args.self.now.caller_of, c.args.self.now.calls) in
    record { caller_of = on.0; calls = on.1; worker_of = c.args.self.now.worker_of; idle = c.args.self.now.idle }
