use Rattle.flow_node.proofs.JoinSteps.{join-arrived}
use Rattle.flow_node.proofs.part.Part.arrive.Goals as goal

pub returns-in-Join : goal.returns-in-Join
returns-in-Join c = rw (c.in-Join.is) (join-arrived c.args.base.now c.in-Join.join c.arrive-in-Join.new.self c.args.port c.args.item c.arrive-in-Join.ensures.ports c.arrive-in-Join.ensures.rule c.arrive-in-Join.ensures.same)
