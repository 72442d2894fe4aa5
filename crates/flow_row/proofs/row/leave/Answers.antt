use Rattle.std.proofs.Common.{◌∙◌}
use Rattle.flow_row.proofs.Calls.{of-book, calls-book, row-halted}
use Rattle.flow_row.proofs.row.leave.Goals as goal

pub leave-requires-clause-of : goal.leave-requires-clause-of
leave-requires-clause-of g c = λ κs lives. of-book c.args.row.now.book.run c.args.row.now.book.items c.args.row.now.book.events c.args.c.now c.args.row.now.run c.args.row.now.limits c.requires.0

pub leave-requires-clause-caller : goal.leave-requires-clause-caller
leave-requires-clause-caller g c = λ κs lives. calls-book c.args.row.now.book.run c.args.c.now c.args.row.now.run c.requires

pub returns-in-Ok : goal.returns-in-Ok
returns-in-Ok g c = c.in-Ok.ensures.made.about ∙ c.requires.0

pub returns-in-Err : goal.returns-in-Err
returns-in-Err g c = row-halted _ _ _ _ c.in-Err.ensures.stopped c.requires.0
