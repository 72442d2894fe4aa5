use Rattle.std.proofs.Common.{◌≡◌, ◌∙◌, ap, is_some, heap_items}
use Rattle.flow_join.specs.Keys.{RoomyKeyJoin, next_key_parts}
use Rattle.flow_join.proofs.Matching.{ready-is}
use Rattle.flow_join.proofs.key.KeyJoin.ready.Goals as goal

pub returns : goal.returns
returns c =
    let i = c.self.inside in
    c.is_some.ensures ∙ ready-is i.ports.items (heap_items i.complete) c.self.invariant.some c.self.invariant.counted c.least_tag.result c.least_tag.ensures
    ∙ ap (λ (v : RoomyKeyJoin). is_some (next_key_parts v)) c.self.view_is
