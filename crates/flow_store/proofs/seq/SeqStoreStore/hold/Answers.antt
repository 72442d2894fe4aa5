use Rattle.std.proofs.Common.{◌≡◌, true, sym, subst}
use Rattle.flow_shape.specs.declared.Kind.TheVariants as K
use Rattle.flow_machine.specs.State.{store_part}
use Rattle.flow_store.specs.Stores.{RoomyTags, goes}
use Rattle.flow_store.proofs.TagOrders.{keeps-held}
use Rattle.flow_store.proofs.seq.SeqStoreStore.hold.Goals as goal

pub invariant_of-self : goal.invariant_of-self
invariant_of-self c =
    let i = c.self.inside in
    keeps-held i.next i.items.entries i.lock i.sorted c.args.edge c.args.no c.self.invariant
    (subst (λ (v : RoomyTags). goes K.Sequencer (store_part v.state) c.args.no ≡ true) (sym c.self.view_is) c.requires.goes)
