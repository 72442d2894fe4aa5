use Rattle.std.proofs.Common.{ap, ◌∙◌, slice_get, heap_items}
use Rattle.flow_store.specs.Stores.{RoomyRanks}
use Rattle.flow_store.specs.Ranks.{all_items}
use Rattle.flow_store.proofs.Ranking.{age-place}
use Rattle.flow_store.proofs.rank.RankStoreStore.items.Goals as goal

pub returns : goal.returns
returns c =
    age-place (all_items (heap_items c.self.inside.ranks.heap) c.self.inside.ranks.locked) c.args.k _ c.self.invariant.once c.nth.ensures
    ∙ ap (λ (v : RoomyRanks). slice_get v.items c.args.k) c.self.view_is
