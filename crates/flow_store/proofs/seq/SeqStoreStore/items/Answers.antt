use Rattle.std.proofs.Common.{slice_get, ap, ◌∙◌}
use Rattle.flow_store.specs.Stores.{RoomyTags}
use Rattle.flow_store.specs.Tags.{tagged_items}
use Rattle.flow_store.proofs.Ranking.{age-place}
use Rattle.flow_store.proofs.seq.SeqStoreStore.items.Goals as goal

pub returns : goal.returns
returns c =
    age-place (tagged_items c.self.inside.items.entries) c.args.k _ c.self.invariant.once c.nth.ensures
    ∙ ap (λ (v : RoomyTags). slice_get v.state.items c.args.k) c.self.view_is
