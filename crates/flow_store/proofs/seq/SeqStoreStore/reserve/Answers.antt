use Rattle.std.proofs.Common.{ℕ, List, sym, ap, ◌∙◌, subst}
use Rattle.flow_item.specs.declared.item.Item.{Item}
use Rattle.flow_machine.specs.State.{store_part}
use Rattle.flow_store.specs.Stores.{RoomyTags}
use Rattle.flow_store.specs.Tags.{tag_state, KeepsTags}
use Rattle.flow_store.proofs.seq.SeqStoreStore.reserve.Goals as goal

pub invariant_of-self : goal.invariant_of-self
invariant_of-self c =
    let i = c.self.inside in
    subst (λ (es : List (ℕ × Item)). KeepsTags es i.lock i.next i.sorted) (sym c.reserve.ensures.entries) c.self.invariant

pub returns-clause-part : goal.returns-clause-part
returns-clause-part c =
    let i = c.self.inside in
    ap (λ (es : List (ℕ × Item)). store_part (tag_state es i.lock i.next)) c.reserve.ensures.entries
    ∙ ap (λ (v : RoomyTags). store_part v.state) c.self.view_is
