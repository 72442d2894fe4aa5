use Rattle.std.proofs.Common.{◌≡◌, ◌∙◌, List, ℕ, not, nat_eq, ap, sym}
use Rattle.std.specs.List.{list_any}
use Rattle.indexmap.specs.IndexMap.{get}
use Rattle.flow_item.specs.Lists.{is_empty}
use Rattle.flow_machine.specs.After.{has_tag}
use Rattle.flow_join.specs.Tags.{RoomyPort}
use Rattle.flow_join.proofs.Slots.{places-some, has-places}
use Rattle.flow_join.proofs.key_port.KeyPort.has.Goals as goal

pub returns : goal.returns
returns c =
    let i = c.self.inside in
    c.contains_key.ensures ∙ places-some (get nat_eq i.by_tag c.args.tag) ∙ ap (λ (ks : List ℕ). not (is_empty ks)) (c.self.invariant.queued c.args.tag)
    ∙ sym (has-places c.args.tag i.base i.slots.items) ∙ ap (λ (v : RoomyPort). list_any (has_tag c.args.tag) v.items) c.self.view_is
