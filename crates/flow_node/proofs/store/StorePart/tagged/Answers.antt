use Rattle.std.proofs.Common.{◌≡◌, true, false, ◌&&◌, eqb, sym, ◌∙◌}
use Rattle.flow_item.specs.declared.item.Item.{Item}
use Rattle.flow_item.proofs.Tests.{and_left, and_right}
use Rattle.flow_machine.specs.Enabled.{is_numbered}
use Rattle.flow_node.specs.Parts.{store_state}
use Rattle.flow_node.proofs.StoreLemmas.{find-kept_at, find-kept_later}
use Rattle.flow_node.proofs.store.StorePart.tagged.Goals as goal

pub returns-then-is_tagged : goal.returns-then-is_tagged
returns-then-is_tagged c =
    let i = c.item_at-item.result.now in
    let is : (is_numbered c.args.no i && eqb i.tag c.args.tag) ≡ true = sym c.is_tagged.ensures ∙ c.if-is_tagged.true in
    sym (find-kept_at (is_numbered c.args.no) (store_state c.args.self.now).items c.loop-k.k i c.item_at-item.ensures (λ (j : Item). eqb j.tag c.args.tag) (and_left (is_numbered c.args.no i) _ is) (and_right (is_numbered c.args.no i) _ is))
    ∙ c.loop-k.invariant

pub loop-k-preserved : goal.loop-k-preserved
loop-k-preserved c =
    let i = c.item_at-item.result.now in
    let other : (is_numbered c.args.no i && eqb i.tag c.args.tag) ≡ false = sym c.is_tagged.ensures ∙ c.if-is_tagged.false in
    find-kept_later (is_numbered c.args.no) (store_state c.args.self.now).items c.loop-k.k i c.item_at-item.ensures (λ (j : Item). eqb j.tag c.args.tag) other
    ∙ c.loop-k.invariant
