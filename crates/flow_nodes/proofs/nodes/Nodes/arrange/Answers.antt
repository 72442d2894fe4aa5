use Rattle.std.proofs.Common.{◌∙◌}
use Rattle.flow_nodes.proofs.StepLemmas.{nodes-stay}
use Rattle.flow_nodes.proofs.nodes.Nodes.arrange.Goals as goal

pub loop-at-preserved : goal.loop-at-preserved
loop-at-preserved c = nodes-stay c.arrange_at.ensures ∙ c.loop-at.invariant

pub returns-in_err-arrange_at : goal.returns-in_err-arrange_at
returns-in_err-arrange_at c = nodes-stay c.arrange_at.ensures ∙ c.loop-at.invariant
