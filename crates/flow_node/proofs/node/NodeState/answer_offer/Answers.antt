use Rattle.flow_node.proofs.NodeLemmas.{offer-lands}
use Rattle.flow_node.proofs.node.NodeState.answer_offer.Goals as goal

pub returns-in-Ok : goal.returns-in-Ok
returns-in-Ok c =
    let b = c.self.inside.base in
    rw (← c.self.view_is) (offer-lands b c.self.inside.part c.args.link c.args.item c.in-Ok.land c.in-Ok.ensures)
