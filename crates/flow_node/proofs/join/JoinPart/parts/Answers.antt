use Rattle.std.proofs.Common.{◌≡◌, true, sym, ap, ◌∙◌}
use Rattle.std.specs.Prelude.{is_some}
use Rattle.flow_node.specs.Joins.{JoinView, parts_of, tuple_in}
use Rattle.flow_node.proofs.JoinLemmas.{tuple-ready}
use Rattle.flow_node.proofs.join.JoinPart.parts.Goals as goal

pub ids-requires : goal.ids-requires
ids-requires c =
    let some : is_some (tuple_in c.args.self.now) ≡ true = sym c.forms.ensures ∙ c.if-forms.true in
    ap (λ (v : JoinView). is_some (parts_of v.inputs)) c.self.view_is ∙ tuple-ready c.args.self.now some
