use Rattle.std.proofs.Common.{◌≡◌, Some, sym, ap, ◌∙◌}
use Rattle.flow_node.specs.Joins.{JoinView}
use Rattle.flow_node.proofs.JoinLemmas.{slot-unmet}
use Rattle.flow_node.proofs.join.JoinPart.give.Goals as goal

pub give-requires-clause-room : goal.give-requires-clause-room
give-requires-clause-room c =
    let at : c.args.self.now.slot ≡ Some c.in-Some.cast = sym (ap (λ (v : JoinView). v.slot) c.self.view_is) ∙ c.in-Some.is in
    (slot-unmet c.args.base.now c.args.self.now c.args.edge c.in-Some.cast at c.requires.roomy c.requires.open).1
