use Rattle.flow_node.proofs.JoinSteps.{join-readied}
use Rattle.flow_node.proofs.part.Part.expect_tuple.Goals as goal

pub returns-in-Join-clause-same : goal.returns-in-Join-clause-same
returns-in-Join-clause-same c = rw (c.in-Join.is) (join-readied c.args.base.now c.in-Join.join c.expect_tuple.new.self c.expect_tuple.ensures.same c.expect_tuple.ensures.room)
