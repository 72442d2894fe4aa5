use Rattle.std.proofs.Common.{◌∙◌}
use Rattle.flow_tests_book.proofs.Nodes.{of-halted}
use Rattle.flow_tests_book.proofs.node.leave.Goals as goal

pub leave-requires-clause-of : goal.leave-requires-clause-of
leave-requires-clause-of g c = λ κs lives. c.requires.about

pub leave-requires-clause-caller : goal.leave-requires-clause-caller
leave-requires-clause-caller g c = λ κs lives. c.requires.calls

pub returns-in-Ok : goal.returns-in-Ok
returns-in-Ok g c = c.in-Ok.ensures.made.about ∙ c.requires.about

pub returns-in-Err : goal.returns-in-Err
returns-in-Err g c = of-halted c.args.book.now.run c.args.book.now.items c.args.book.now.events c.args.c.now c.leave.new.c _ c.in-Err.stop c.requires.about c.in-Err.ensures.stopped
