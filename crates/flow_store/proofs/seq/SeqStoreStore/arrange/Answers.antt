use Rattle.std.proofs.Common.{ℕ, List, sym, ap, ◌∙◌, subst}
use Rattle.flow_item.specs.declared.item.Item.{Item}
use Rattle.flow_machine.specs.State.{store_part}
use Rattle.flow_store.specs.Stores.{RoomyTags}
use Rattle.flow_store.specs.Tags.{tag_state, KeepsTags}
use Rattle.flow_store.proofs.TagOrders.{keeps-sorted, age-stays}
use Rattle.flow_store.proofs.seq.SeqStoreStore.arrange.Goals as goal

pub invariant_of-self : goal.invariant_of-self
invariant_of-self c =
    let i = c.self.inside in
    keeps-sorted i.items.entries c.sort_unstable_keys.new.self.entries i.lock i.next i.sorted c.self.invariant c.sort_unstable_keys.ensures.reordered.0 c.in-Ok.ensures.sorted

pub invariant_of-self-in-Err : goal.invariant_of-self-in-Err
invariant_of-self-in-Err c =
    let i = c.self.inside in
    subst (λ (es : List (ℕ × Item)). KeepsTags es i.lock i.next i.sorted) (sym c.in-Err.ensures.err) c.self.invariant

pub returns-in-Ok-clause-part : goal.returns-in-Ok-clause-part
returns-in-Ok-clause-part c =
    let i = c.self.inside in
    ap (λ xs. store_part record { items = xs; lock = i.lock; next = i.next }) (age-stays i.items.entries c.sort_unstable_keys.new.self.entries c.self.invariant.once c.sort_unstable_keys.ensures.reordered.0)
    ∙ ap (λ (v : RoomyTags). store_part v.state) c.self.view_is

pub returns-in-Err-clause-part : goal.returns-in-Err-clause-part
returns-in-Err-clause-part c =
    let i = c.self.inside in
    ap (λ (es : List (ℕ × Item)). store_part (tag_state es i.lock i.next)) c.in-Err.ensures.err
    ∙ ap (λ (v : RoomyTags). store_part v.state) c.self.view_is
