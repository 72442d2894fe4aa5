use Rattle.std.proofs.Common.{◌≡◌, true, false, sym, ◌∙◌}
use Rattle.flow_item.specs.Lists.{has}
use Rattle.flow_node.specs.Parts.{edges_over}
use Rattle.flow_node.proofs.CastLemmas.{over-has}
use Rattle.flow_node.proofs.function.may_meet.Goals as goal

pub returns-then-is_over : goal.returns-then-is_over
returns-then-is_over c =
    let here = sym (over-has c.args.outs.now c.port.result c.args.edge) ∙ sym c.is_over.ensures ∙ c.if-is_over.true in
    let over : has (edges_over c.args.outs.now c.args.cast.now.cast.port) c.args.edge ≡ true = rw (c.port.ensures) at here in
    rw (over) c.offer.ensures

pub returns-else-is_over : goal.returns-else-is_over
returns-else-is_over c =
    let here = sym (over-has c.args.outs.now c.port.result c.args.edge) ∙ sym c.is_over.ensures ∙ c.if-is_over.false in
    let over : has (edges_over c.args.outs.now c.args.cast.now.cast.port) c.args.edge ≡ false = rw (c.port.ensures) at here in
    rw (over) c.if-is_over.false
