use Rattle.std.proofs.Common.{Option, is_none, filter, nat_eq, refl, sym, ap, ◌∙◌}
use Rattle.flow_item.specs.declared.item.Item.{Item}
use Rattle.flow_item.specs.Lists.{first}
use Rattle.flow_machine.specs.declared.Claim.{Claim}
use Rattle.flow_machine.specs.Offers.{when}
use Rattle.flow_store.specs.Stores.{RoomyTags}
use Rattle.flow_store.specs.Orders.{by_age}
use Rattle.flow_store.specs.Tags.{tagged_items}
use Rattle.flow_store.proofs.TagSteps.{due-first}
use Rattle.flow_store.proofs.seq.SeqStoreStore.front.Goals as goal

pub returns-in-Some : goal.returns-in-Some
returns-in-Some c =
    let i = c.self.inside in
    ap (λ (o : Option Claim). first (when (is_none o) (filter (λ (x : Item). nat_eq x.tag i.next) (by_age (tagged_items i.items.entries))))) (sym c.in-Some.is)
    ∙ ap (λ (v : RoomyTags). first (when (is_none v.state.lock) (filter (λ (x : Item). nat_eq x.tag v.state.next) v.state.items))) c.self.view_is

pub returns-in-None : goal.returns-in-None
returns-in-None c =
    let i = c.self.inside in
    c.get.ensures.value
    ∙ due-first i.next i.items.entries c.self.invariant.tagged c.self.invariant.tags _ refl
    ∙ ap (λ (o : Option Claim). first (when (is_none o) (filter (λ (x : Item). nat_eq x.tag i.next) (by_age (tagged_items i.items.entries))))) (sym c.in-None.is)
    ∙ ap (λ (v : RoomyTags). first (when (is_none v.state.lock) (filter (λ (x : Item). nat_eq x.tag v.state.next) v.state.items))) c.self.view_is
