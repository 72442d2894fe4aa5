use Rattle.std.proofs.Common.{◌≡◌, suc, ◌+◌, ◌<◌, ◌^◌, true, None, sym, ap, ◌∙◌, subst, arith}
use Rattle.flow_item.specs.Lists.{drop_first}
use Rattle.flow_machine.specs.State.{store_part}
use Rattle.flow_machine.specs.Enabled.{is_numbered, is_reserved}
use Rattle.flow_store.specs.Stores.{RoomyTags}
use Rattle.flow_store.specs.Orders.{by_age}
use Rattle.flow_store.specs.Tags.{tagged_items}
use Rattle.flow_store.proofs.TagSteps.{WentTagged}
use Rattle.flow_store.proofs.TagOrders.{tag-taken, keeps-went, locked-there}
use Rattle.flow_store.proofs.seq.SeqStoreStore.take.Goals as goal

pub remove_tagged-requires : goal.remove_tagged-requires
remove_tagged-requires c =
    let i = c.self.inside in
    locked-there i.next i.items.entries i.lock i.sorted c.args._edge c.args._no c.self.invariant
    (subst (λ (v : RoomyTags). is_reserved (store_part v.state) c.args._edge c.args._no ≡ true) (sym c.self.view_is) c.requires.held)

pub overflow_add-self : goal.overflow_add-self
overflow_add-self c = let fits = subst (λ (v : RoomyTags). suc v.state.next < 2 ^ 64) (sym c.self.view_is) c.requires.fits in omega (arith, fits)

went : (c : goal.After-self-3-1) → WentTagged c.self.inside.items.entries c.remove_tagged.new.items.entries c.args._no
went c =
    let i = c.self.inside in
    tag-taken i.next i.items.entries c.remove_tagged.new.items.entries i.lock i.sorted c.args._edge c.args._no c.self.invariant
    (subst (λ (v : RoomyTags). is_reserved (store_part v.state) c.args._edge c.args._no ≡ true) (sym c.self.view_is) c.requires.held) c.remove_tagged.ensures.items

pub invariant_of-self : goal.invariant_of-self
invariant_of-self c =
    let i = c.self.inside in
    keeps-went i.items.entries c.remove_tagged.new.items.entries (i.next + 1) c.args._no (went c)

pub returns-clause-part : goal.returns-clause-part
returns-clause-part c =
    let i = c.self.inside in
    let up : i.next + 1 ≡ suc i.next = omega arith in
    ap (λ xs. store_part record { items = xs; lock = None; next = i.next + 1 }) (went c).items
    ∙ ap (λ n. store_part record { items = drop_first (is_numbered c.args._no) (by_age (tagged_items i.items.entries)); lock = None; next = n }) up
    ∙ ap (λ (v : RoomyTags). store_part record { items = drop_first (is_numbered c.args._no) v.state.items; lock = None; next = suc v.state.next }) c.self.view_is
