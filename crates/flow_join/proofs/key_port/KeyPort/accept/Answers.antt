use Rattle.std.proofs.Common.{◌≡◌, ◌∙◌, ◌+◌, ◌++◌, ◌∷◌, [], ℕ, List, Some, None, ap, sym, subst, arith}
use Rattle.flow_item.specs.declared.item.Item.{Item}
use Rattle.flow_item.specs.Lists.{places}
use Rattle.flow_join.specs.Tags.{RoomyPort, filled, holds_tag, places_at}
use Rattle.flow_join.proofs.Slots.{pushed, filled-push}
use Rattle.flow_join.proofs.key_port.KeyPort.accept.Goals as goal

pub invariant_of-self : goal.invariant_of-self
invariant_of-self c =
    let i = c.self.inside in
    let ready : i.ready ≡ Some c.args.item.tag = ap (λ (v : RoomyPort). v.ready) c.self.view_is ∙ c.requires in
    let room = c.self.invariant.room c.args.item.tag ready in
    let place = room.place in
    let len = c.push_back_reserved.ensures.len in
    let own = c.push_place.ensures.own ∙ ap (λ (n : ℕ). places_at i.by_tag c.args.item.tag ++ (i.base + n) ∷ []) (c.len.ensures ∙ i.slots.ok.0) in
    record {
      fits = omega arith;
      queued = λ t. pushed (places_at i.by_tag) (places_at c.push_place.new.map) i.base i.slots.items c.args.item c.self.invariant.queued own c.push_place.ensures.others t
          ∙ ap (places (holds_tag t) i.base) (sym c.push_back_reserved.ensures.items);
      room = λ t e. cc;
    }

pub returns : goal.returns
returns c =
    let made : List Item → RoomyPort = λ is. record { items = is; ready = None } in
    ap made (ap filled c.push_back_reserved.ensures.items ∙ filled-push c.self.inside.slots.items c.args.item ∙ ap (λ (v : RoomyPort). v.items ++ c.args.item ∷ []) c.self.view_is)
