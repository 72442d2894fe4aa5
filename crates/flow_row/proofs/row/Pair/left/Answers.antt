use Rattle.flow_row.proofs.Calls.{of-book, worker-on}
use Rattle.flow_row.proofs.row.Pair.left.Goals as goal

pub left-requires : goal.left-requires
left-requires g c = record { of = of-book c.args.row.now.book.run c.args.row.now.book.items c.args.row.now.book.events c.args.self.now.worker c.args.row.now.run c.args.row.now.limits c.args.self.now.worker_of }

pub invariant_of-self : goal.invariant_of-self
invariant_of-self g c =
    let on = worker-on c.args.self.now.worker c.left.new.c c.left.ensures.same (c.args.self.now.worker_of, c.args.self.now.idle) in
    record { caller_of = c.args.self.now.caller_of; calls = c.args.self.now.calls; worker_of = on.0; idle = on.1 }
