use Rattle.std.proofs.Common.{slice_get, ap, ◌∙◌}
use Rattle.flow_machine.specs.PrintOrder.{sorted_by, tagged_before}
use Rattle.flow_store.specs.Stores.{RoomyTags}
use Rattle.flow_store.specs.Tags.{tagged_items}
use Rattle.flow_store.proofs.TagOrders.{entry-at, rising-order, tag-place}
use Rattle.flow_store.proofs.seq.SeqStoreStore.at.Goals as goal

pub returns-in-Some : goal.returns-in-Some
returns-in-Some c =
    let es = c.self.inside.items.entries in
    entry-at es c.args.k _ c.in-Some.ensures.entry
    ∙ ap (λ xs. slice_get xs c.args.k) (rising-order (tagged_items es) c.self.invariant.tags (c.self.invariant.rising c.if-self.true))
    ∙ ap (λ (v : RoomyTags). slice_get (sorted_by tagged_before v.state.items) c.args.k) c.self.view_is

pub returns-in-None : goal.returns-in-None
returns-in-None c =
    let es = c.self.inside.items.entries in
    entry-at es c.args.k _ c.in-None.ensures.entry
    ∙ ap (λ xs. slice_get xs c.args.k) (rising-order (tagged_items es) c.self.invariant.tags (c.self.invariant.rising c.if-self.true))
    ∙ ap (λ (v : RoomyTags). slice_get (sorted_by tagged_before v.state.items) c.args.k) c.self.view_is

pub returns-else-self : goal.returns-else-self
returns-else-self c =
    tag-place (tagged_items c.self.inside.items.entries) c.args.k _ c.self.invariant.tags c.nth.ensures
    ∙ ap (λ (v : RoomyTags). slice_get (sorted_by tagged_before v.state.items) c.args.k) c.self.view_is
