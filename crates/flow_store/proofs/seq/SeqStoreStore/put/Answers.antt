use Rattle.std.proofs.Common.{◌≡◌, Result, Ok, true, [], ◌∷◌, ◌++◌, sym, ap, ◌∙◌, subst, arith}
use Rattle.flow_item.specs.declared.event.Land.{Land}
use Rattle.flow_item.specs.declared.event.Land.TheVariants as L
use Rattle.flow_item.specs.declared.event.Cause.{Cause}
use Rattle.flow_shape.specs.declared.Kind.TheVariants as K
use Rattle.flow_machine.specs.State.{store_part}
use Rattle.flow_machine.specs.Offers.{lands}
use Rattle.flow_store.specs.Stores.{RoomyTags, is_new, room_for, room_told}
use Rattle.flow_store.proofs.TagSteps.{CameTagged, tag-came}
use Rattle.flow_store.proofs.TagOrders.{kept-absent, keeps-came}
use Rattle.flow_store.proofs.seq.SeqStoreStore.put.Goals as goal

pub insert_tagged-requires-clause-room : goal.insert_tagged-requires-clause-room
insert_tagged-requires-clause-room c = let spare = ap (λ (v : RoomyTags). v.spare) c.self.view_is in omega (arith, spare, c.requires.room)

pub insert_tagged-requires-clause-new : goal.insert_tagged-requires-clause-new
insert_tagged-requires-clause-new c =
    let i = c.self.inside in
    kept-absent c.args.item.tag i.items.entries i.lock i.next c.args.way c.self.invariant.tagged
    (subst (λ (v : RoomyTags). lands L.Kept ≡ room_for K.Sequencer (store_part v.state) c.args.item.tag c.args.way) (sym c.self.view_is)
    (sym (ap (λ (r : Result Land Cause). room_told r) (c.in-Ok-Kept.is ∙ ap Ok c.in-Ok-Kept.field-0-is)) ∙ c.room.ensures))

came : (c : goal.After-insert_tagged) → CameTagged c.self.inside.items.entries c.insert_tagged.new.items.entries c.args.item
came c =
    let i = c.self.inside in
    let absent = kept-absent c.args.item.tag i.items.entries i.lock i.next c.args.way c.self.invariant.tagged
    (subst (λ (v : RoomyTags). lands L.Kept ≡ room_for K.Sequencer (store_part v.state) c.args.item.tag c.args.way) (sym c.self.view_is)
    (sym (ap (λ (r : Result Land Cause). room_told r) (c.in-Ok-Kept.is ∙ ap Ok c.in-Ok-Kept.field-0-is)) ∙ c.room.ensures)) in
    tag-came i.items.entries c.insert_tagged.new.items.entries c.args.item c.self.invariant.tagged c.self.invariant.once c.self.invariant.tags
    (subst (λ (v : RoomyTags). is_new c.args.item.id.no v.state.items ≡ true) (sym c.self.view_is) c.requires.new) absent c.insert_tagged.ensures.items

pub invariant_of-self : goal.invariant_of-self
invariant_of-self c =
    let i = c.self.inside in
    keeps-came i.items.entries c.insert_tagged.new.items.entries i.lock i.next i.sorted c.args.item c.self.invariant (came c) c.insert_tagged.ensures.items

pub returns-in-Ok-Kept-clause-after : goal.returns-in-Ok-Kept-clause-after
returns-in-Ok-Kept-clause-after c =
    let i = c.self.inside in
    ap (λ xs. store_part record { items = xs; lock = i.lock; next = i.next }) (came c).items
    ∙ ap (λ (v : RoomyTags). store_part record { items = v.state.items ++ c.args.item ∷ []; lock = v.state.lock; next = v.state.next }) c.self.view_is
