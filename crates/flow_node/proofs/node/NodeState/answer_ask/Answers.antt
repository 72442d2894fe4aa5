use Rattle.std.proofs.Common.{◌∙◌}
use Rattle.flow_node.proofs.NodeLemmas.{ask-offers}
use Rattle.flow_node.proofs.node.NodeState.answer_ask.Goals as goal

pub returns-in-Some : goal.returns-in-Some
returns-in-Some c =
    let asked = ask-offers c.self.inside.base c.self.inside.part c.args.link c.in-Some.item in
    rw (c.in-Some.is) (c.answer_offer.ensures ∙ rw (← c.self.view_is) asked)
