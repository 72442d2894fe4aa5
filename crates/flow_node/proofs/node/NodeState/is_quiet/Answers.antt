use Rattle.std.proofs.Common.{ap, ◌∙◌}
use Rattle.flow_node.specs.Readied.{Readied, is_quiet}
use Rattle.flow_node.proofs.NodeLemmas.{quiet-then, quiet-else}
use Rattle.flow_node.proofs.node.NodeState.is_quiet.Goals as goal

pub returns-then-is_none : goal.returns-then-is_none
returns-then-is_none c =
    quiet-then c.self.inside.base c.self.inside.part c.offer_wish.result c.is_none.result c.offer_wish.ensures c.is_none.ensures c.shut_wish.result c.is_none-then-is_none.result c.if-is_none.true c.shut_wish.ensures c.is_none-then-is_none.ensures
    ∙ ap (λ (v : Readied). is_quiet v.node.place v.node.state) c.self.view_is

pub returns-else-is_none : goal.returns-else-is_none
returns-else-is_none c =
    quiet-else c.self.inside.base c.self.inside.part c.offer_wish.result c.is_none.result c.offer_wish.ensures c.is_none.ensures c.if-is_none.false
    ∙ ap (λ (v : Readied). is_quiet v.node.place v.node.state) c.self.view_is
