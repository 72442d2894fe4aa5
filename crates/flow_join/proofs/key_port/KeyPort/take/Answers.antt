use Rattle.std.proofs.Common.{◌≡◌, ◌∙◌, ◌-◌, ℕ, List, Some, None, not, nat_eq, slice_get, slice_set, ap, sym, subst, arith}
use Rattle.std.specs.List.{list_any}
use Rattle.indexmap.specs.IndexMap.{get}
use Rattle.flow_item.specs.declared.item.Item.{Item}
use Rattle.flow_item.specs.Lists.{is_empty, first, drop_first, places}
use Rattle.flow_machine.specs.Offers.{with_tag}
use Rattle.flow_machine.specs.After.{has_tag}
use Rattle.flow_join.specs.Tags.{RoomyPort, filled, holds_tag, places_at, is_item}
use Rattle.flow_join.proofs.Slots.{taken, popped, places-some, has-places, inner}
use Rattle.flow_join.proofs.key_port.KeyPort.take.Goals as goal

pub pop_place-place-requires : goal.pop_place-place-requires
pop_place-place-requires c =
    let i = c.self.inside in
    places-some (get nat_eq i.by_tag c.args.tag) ∙ ap (λ (ks : List ℕ). not (is_empty ks)) (c.self.invariant.queued c.args.tag) ∙ sym (has-places c.args.tag i.base i.slots.items)
    ∙ ap (λ (v : RoomyPort). list_any (has_tag c.args.tag) v.items) c.self.view_is ∙ c.requires

pub overflow_sub-place : goal.overflow_sub-place
overflow_sub-place c =
    let i = c.self.inside in
    let t = taken c.args.tag i.base i.slots.items c.pop_place-place.result (places_at c.pop_place-place.new.map c.args.tag) (sym (c.self.invariant.queued c.args.tag) ∙ c.pop_place-place.ensures.own) in
    let is = t.is in
    omega arith

pub take_slot-item-requires : goal.take_slot-item-requires
take_slot-item-requires c =
    let i = c.self.inside in
    let place = c.pop_place-place.result in
    let t = taken c.args.tag i.base i.slots.items place (places_at c.pop_place-place.new.map c.args.tag) (sym (c.self.invariant.queued c.args.tag) ∙ c.pop_place-place.ensures.own) in
    let is = t.is in
    let slot : t.slot ≡ place - i.base = omega arith in
    ap is_item (subst (λ (k : ℕ). slice_get i.slots.items k ≡ Some (Some t.item)) slot t.at)

pub invariant_of-self : goal.invariant_of-self
invariant_of-self c =
    let i = c.self.inside in
    let place = c.pop_place-place.result in
    let t = taken c.args.tag i.base i.slots.items place (places_at c.pop_place-place.new.map c.args.tag) (sym (c.self.invariant.queued c.args.tag) ∙ c.pop_place-place.ensures.own) in
    let is = t.is in
    let slot : t.slot ≡ place - i.base = omega arith in
    let was = c.self.invariant.fits in
    let same = c.take_slot-item.ensures.len in
    let now = c.drop_holes-self-inside.ensures.fits in
    record {
      fits = omega arith;
      queued = λ u. popped (places_at i.by_tag) (places_at c.pop_place-place.new.map) c.args.tag i.base i.slots.items place t c.self.invariant.queued c.pop_place-place.ensures.others u
          ∙ ap (λ (k : ℕ). places (holds_tag u) i.base (slice_set i.slots.items k None)) slot ∙ ap (places (holds_tag u) i.base) (sym c.take_slot-item.ensures.slots)
          ∙ sym (c.drop_holes-self-inside.ensures.places u);
      room = λ u e. cc;
    }

pub returns-clause-item : goal.returns-clause-item
returns-clause-item c =
    let i = c.self.inside in
    let place = c.pop_place-place.result in
    let t = taken c.args.tag i.base i.slots.items place (places_at c.pop_place-place.new.map c.args.tag) (sym (c.self.invariant.queued c.args.tag) ∙ c.pop_place-place.ensures.own) in
    let is = t.is in
    let slot : t.slot ≡ place - i.base = omega arith in
    let at = subst (λ (k : ℕ). slice_get i.slots.items k ≡ Some (Some t.item)) slot t.at in
    sym (ap (λ (v : RoomyPort). first (with_tag c.args.tag v.items)) c.self.view_is) ∙ t.oldest ∙ inner t.item c.take_slot-item.result (sym at ∙ c.take_slot-item.ensures.item)

pub returns-clause-port : goal.returns-clause-port
returns-clause-port c =
    let i = c.self.inside in
    let place = c.pop_place-place.result in
    let t = taken c.args.tag i.base i.slots.items place (places_at c.pop_place-place.new.map c.args.tag) (sym (c.self.invariant.queued c.args.tag) ∙ c.pop_place-place.ensures.own) in
    let is = t.is in
    let slot : place - i.base ≡ t.slot = omega arith in
    let made : List Item → RoomyPort = λ is. record { items = is; ready = None } in
    ap made (c.drop_holes-self-inside.ensures.items ∙ ap filled c.take_slot-item.ensures.slots ∙ ap (λ (k : ℕ). filled (slice_set i.slots.items k None)) slot ∙ t.left
    ∙ ap (λ (v : RoomyPort). drop_first (has_tag c.args.tag) v.items) c.self.view_is)
