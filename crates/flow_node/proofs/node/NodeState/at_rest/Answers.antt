use Rattle.std.proofs.Common.{sym, ap, ◌∙◌}
use Rattle.flow_machine.specs.Enabled.{at_rest}
use Rattle.flow_node.specs.Readied.{Readied, is_quiet}
use Rattle.flow_node.proofs.NodeLemmas.{rest-then, rest-else}
use Rattle.flow_node.proofs.node.NodeState.at_rest.Goals as goal

pub returns-then-is_quiet : goal.returns-then-is_quiet
returns-then-is_quiet c =
    rest-then c.self.inside.base c.self.inside.part c.is_quiet.result (c.is_quiet.ensures ∙ sym (ap (λ (v : Readied). is_quiet v.node.place v.node.state) c.self.view_is)) c.forms.result c.if-is_quiet.true c.forms.ensures
    ∙ ap (λ (v : Readied). at_rest v.node.place v.node.state) c.self.view_is

pub returns-else-is_quiet : goal.returns-else-is_quiet
returns-else-is_quiet c =
    rest-else c.self.inside.base c.self.inside.part c.is_quiet.result (c.is_quiet.ensures ∙ sym (ap (λ (v : Readied). is_quiet v.node.place v.node.state) c.self.view_is)) c.if-is_quiet.false
    ∙ ap (λ (v : Readied). at_rest v.node.place v.node.state) c.self.view_is
