use Rattle.std.proofs.Common.{sym, ◌∙◌, eq-eqb}
use Rattle.std.proofs.lemmas.Bool.{ne_eqb}
use Rattle.flow_machine.specs.Enabled.{is_numbered}
use Rattle.flow_node.specs.Parts.{store_state}
use Rattle.flow_node.proofs.StoreLemmas.{find-at, find-later}
use Rattle.flow_node.proofs.store.StorePart.item.Goals as goal

pub returns-then-item-no : goal.returns-then-item-no
returns-then-item-no c =
    sym (find-at (is_numbered c.args.no) (store_state c.args.self.now).items c.loop-k.k c.item_at-item.result.now c.item_at-item.ensures (eq-eqb _ _ c.if-item-no.true))
    ∙ c.loop-k.invariant

pub loop-k-preserved : goal.loop-k-preserved
loop-k-preserved c =
    find-later (is_numbered c.args.no) (store_state c.args.self.now).items c.loop-k.k c.item_at-item.result.now c.item_at-item.ensures (ne_eqb _ _ c.if-item-no.false)
    ∙ c.loop-k.invariant
