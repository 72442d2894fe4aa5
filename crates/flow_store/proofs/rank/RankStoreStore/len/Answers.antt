use Rattle.std.proofs.Common.{length, sym, ap, ◌∙◌, heap_items}
use Rattle.flow_store.specs.Stores.{RoomyRanks}
use Rattle.flow_store.specs.Ranks.{all_items}
use Rattle.flow_store.proofs.RankSteps.{length-by_age}
use Rattle.flow_store.proofs.rank.RankStoreStore.len.Goals as goal

pub returns : goal.returns
returns c = c.count.ensures ∙ sym (length-by_age (all_items (heap_items c.self.inside.ranks.heap) c.self.inside.ranks.locked)) ∙ ap (λ (v : RoomyRanks). length v.items) c.self.view_is
