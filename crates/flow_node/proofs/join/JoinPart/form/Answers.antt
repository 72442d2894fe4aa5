use Rattle.std.proofs.Common.{◌≡◌, ◌++◌, Some, map, sym, ap, ◌∙◌}
use Rattle.std.specs.Option.{option_map}
use Rattle.flow_item.specs.declared.item.Item.{Item}
use Rattle.flow_machine.specs.Offers.{tag_of}
use Rattle.flow_node.specs.Joins.{JoinView, room_edges, ready_parts}
use Rattle.flow_node.proofs.JoinLemmas.{some-made, slot-made}
use Rattle.flow_node.proofs.join.JoinPart.form.Goals as goal

pub returns-clause-slot : goal.returns-clause-slot
returns-clause-slot c =
    let made = c.in-Some.field-0 in
    let at : c.self.inside.room ≡ Some made = sym c.in-Some.ensures.value ∙ ap Some c.in-Some.field-0-is in
    let kept = some-made c.self.inside.inputs c.self.inside.room c.self.inside.ids made at c.self.invariant in
    let room : c.args.self.now.room ≡ Some made.cast = sym (ap (λ (v : JoinView). v.room) c.self.view_is) ∙ ap (option_map room_edges) at in
    let parts = ready_parts c.args.self.now.inputs in
    let after : c.form-tag.new.vals.items ≡ made.vals.items ++ map (λ (i : Item). i.val) parts = rw (← c.self.view_is) c.form-tag.ensures.vals in
    let tag : c.form-tag.result ≡ tag_of parts = rw (← c.self.view_is) c.form-tag.ensures.tag in
    c.replace.ensures.after ∙ slot-made c.args.base.now.node c.args.no c.form-tag.result parts made.vals.items c.into_items.result c.list.result made.cast c.args.self.now.room c.in_room.result
    c.in_room.ensures c.list.ensures (c.into_items.ensures ∙ after) kept tag room
