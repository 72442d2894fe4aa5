use Rattle.flow_node.proofs.JoinSteps.{join-reserved}
use Rattle.flow_node.proofs.part.Part.reserve.Goals as goal

pub returns-in-Join-clause-same : goal.returns-in-Join-clause-same
returns-in-Join-clause-same c = λ outs. rw (c.in-Join.is) (join-reserved c.in-Join.join c.reserve-in-Join.new.self outs c.reserve-in-Join.ensures.ports c.reserve-in-Join.ensures.rule c.reserve-in-Join.ensures.same)
