use Rattle.std.proofs.Common.{◌||◌, nat_eq, nat_lt, ap, ◌∙◌}
use Rattle.std.specs.List.{list_any}
use Rattle.flow_item.specs.declared.item.Item.{Item}
use Rattle.flow_store.specs.Stores.{RoomyTags}
use Rattle.flow_store.proofs.TagOrders.{come-low, come-high}
use Rattle.flow_store.proofs.seq.SeqStore.has_come.Goals as goal

pub returns-then-tag-self : goal.returns-then-tag-self
returns-then-tag-self c = record {
  value = come-low c.args.tag c.self.inside.next _ c.if-tag-self.true
      ∙ ap (λ (v : RoomyTags). nat_lt c.args.tag v.state.next || list_any (λ (i : Item). nat_eq i.tag c.args.tag) v.state.items) c.self.view_is;
}

pub returns-else-tag-self : goal.returns-else-tag-self
returns-else-tag-self c = record {
  value = c.contains_key.ensures ∙ come-high c.args.tag c.self.inside.next c.self.inside.items.entries c.self.invariant.tagged c.if-tag-self.false
      ∙ ap (λ (v : RoomyTags). nat_lt c.args.tag v.state.next || list_any (λ (i : Item). nat_eq i.tag c.args.tag) v.state.items) c.self.view_is;
}
