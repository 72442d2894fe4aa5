use Rattle.std.proofs.Common.{◌≡◌, suc, ◌+◌, ◌<◌, ◌^◌, true, sym, ap, ◌∙◌, subst, arith}
use Rattle.flow_item.specs.Lists.{drop_first}
use Rattle.flow_shape.specs.declared.Kind.TheVariants as K
use Rattle.flow_machine.specs.State.{store_part}
use Rattle.flow_machine.specs.Enabled.{is_numbered}
use Rattle.flow_store.specs.Stores.{RoomyTags, goes}
use Rattle.flow_store.specs.Orders.{by_age}
use Rattle.flow_store.specs.Tags.{tagged_items}
use Rattle.flow_store.proofs.TagSteps.{WentTagged, due-there}
use Rattle.flow_store.proofs.TagOrders.{tag-given, keeps-given}
use Rattle.flow_store.proofs.seq.SeqStoreStore.give.Goals as goal

pub remove_tagged-requires : goal.remove_tagged-requires
remove_tagged-requires c =
    let i = c.self.inside in
    due-there i.next i.items.entries i.lock c.args._no c.self.invariant.tagged
    (subst (λ (v : RoomyTags). goes K.Sequencer (store_part v.state) c.args._no ≡ true) (sym c.self.view_is) c.requires.goes)

pub overflow_add-self : goal.overflow_add-self
overflow_add-self c = let fits = subst (λ (v : RoomyTags). suc v.state.next < 2 ^ 64) (sym c.self.view_is) c.requires.fits in omega (arith, fits)

went : (c : goal.After-self-2-1) → WentTagged c.self.inside.items.entries c.remove_tagged.new.items.entries c.args._no
went c =
    let i = c.self.inside in
    tag-given i.next i.items.entries c.remove_tagged.new.items.entries i.lock i.sorted c.args._no c.self.invariant
    (subst (λ (v : RoomyTags). goes K.Sequencer (store_part v.state) c.args._no ≡ true) (sym c.self.view_is) c.requires.goes) c.remove_tagged.ensures.items

pub invariant_of-self : goal.invariant_of-self
invariant_of-self c =
    let i = c.self.inside in
    keeps-given i.next (i.next + 1) i.items.entries c.remove_tagged.new.items.entries i.lock c.args._no (subst (λ (v : RoomyTags). goes K.Sequencer (store_part v.state) c.args._no ≡ true) (sym c.self.view_is) c.requires.goes) (went c)

pub returns-clause-part : goal.returns-clause-part
returns-clause-part c =
    let i = c.self.inside in
    let up : i.next + 1 ≡ suc i.next = omega arith in
    ap (λ xs. store_part record { items = xs; lock = i.lock; next = i.next + 1 }) (went c).items
    ∙ ap (λ n. store_part record { items = drop_first (is_numbered c.args._no) (by_age (tagged_items i.items.entries)); lock = i.lock; next = n }) up
    ∙ ap (λ (v : RoomyTags). store_part record { items = drop_first (is_numbered c.args._no) v.state.items; lock = v.state.lock; next = suc v.state.next }) c.self.view_is
