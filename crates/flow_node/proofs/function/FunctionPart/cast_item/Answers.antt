use Rattle.std.proofs.Common.{◌≡◌, true, false, Some, sym, ap, ◌∙◌, eq-eqb}
use Rattle.std.proofs.lemmas.Bool.{ne_eqb}
use Rattle.flow_machine.specs.Enabled.{is_numbered}
use Rattle.flow_node.proofs.FunctionLemmas.{find-here, find-past}
use Rattle.flow_node.proofs.function.FunctionPart.cast_item.Goals as goal

pub returns-then-item-no : goal.returns-then-item-no
returns-then-item-no c =
    let cast = c.cast_at.result.now in
    let here : is_numbered c.args.no cast.cast.item ≡ true = rw (← c.item-item.ensures) (eq-eqb _ _ c.if-item-no.true) in
    ap Some c.item-item.ensures ∙ sym (find-here (is_numbered c.args.no) c.args.self.now.outbox c.loop-k.k cast c.cast_at.ensures here) ∙ c.loop-k.invariant

pub loop-k-preserved : goal.loop-k-preserved
loop-k-preserved c =
    let cast = c.cast_at.result.now in
    let other : is_numbered c.args.no cast.cast.item ≡ false = rw (← c.item-item.ensures) (ne_eqb _ _ c.if-item-no.false) in
    find-past (is_numbered c.args.no) c.args.self.now.outbox c.loop-k.k cast c.cast_at.ensures other ∙ c.loop-k.invariant
