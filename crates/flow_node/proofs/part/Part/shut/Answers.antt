use Rattle.flow_node.proofs.JoinSteps.{join-shut}
use Rattle.flow_node.proofs.part.Part.shut.Goals as goal

pub returns-in-Join : goal.returns-in-Join
returns-in-Join c = λ outs. rw (c.in-Join.is) (join-shut c.in-Join.join c.shut-in-Join.new.self outs c.args.ended c.shut-in-Join.ensures)
