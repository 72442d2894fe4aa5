use Rattle.std.proofs.Common.{refl}
use Rattle.flow_tests_book.proofs.Nodes.{one-puts, calls-done, calls-halted}
use Rattle.flow_tests_book.proofs.node.put.Goals as goal

pub put-requires-clause-of : goal.put-requires-clause-of
put-requires-clause-of g c = λ κs lives. c.requires.caller.about

pub put-requires-clause-caller : goal.put-requires-clause-caller
put-requires-clause-caller g c = λ κs lives. c.requires.caller.calls

pub put-requires-clause-port : goal.put-requires-clause-port
put-requires-clause-port g c = λ κs lives. one-puts c.args.book.now.run.shape c.requires.node

pub returns-in-Ok : goal.returns-in-Ok
returns-in-Ok g c = calls-done c.args.book.now.run c.args.book.now.items c.args.book.now.events c.args.c.now c.put.new.c _ c.requires.caller c.in-Ok.ensures.made refl

pub returns-in-Err : goal.returns-in-Err
returns-in-Err g c = calls-halted c.args.book.now.run c.args.book.now.items c.args.book.now.events c.args.c.now c.put.new.c _ c.in-Err.stop c.requires.caller c.in-Err.ensures.stopped
