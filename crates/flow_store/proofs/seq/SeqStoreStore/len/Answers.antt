use Rattle.std.proofs.Common.{length, sym, ap, ◌∙◌}
use Rattle.std.proofs.lemmas.List.{length-map}
use Rattle.flow_store.specs.Stores.{RoomyTags}
use Rattle.flow_store.specs.Tags.{entry_item, tagged_items}
use Rattle.flow_store.proofs.RankSteps.{length-by_age}
use Rattle.flow_store.proofs.seq.SeqStoreStore.len.Goals as goal

pub returns : goal.returns
returns c =
    let es = c.self.inside.items.entries in
    c.len.ensures.len ∙ sym (length-map es entry_item) ∙ sym (length-by_age (tagged_items es)) ∙ ap (λ (v : RoomyTags). length v.state.items) c.self.view_is
