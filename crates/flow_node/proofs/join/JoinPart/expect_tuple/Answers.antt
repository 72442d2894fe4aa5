use Rattle.flow_node.proofs.JoinLemmas.{has-room}
use Rattle.flow_node.proofs.join.JoinPart.expect_tuple.Goals as goal

pub returns-clause-room : goal.returns-clause-room
returns-clause-room c = has-room c.args.base.now.outs.items c.replace.new.self c.in_ok-room.room c.count_over.result c.replace.ensures.after c.in_ok-room.ensures.cast (rw (← c.deref.ensures.value) c.count_over.ensures)
