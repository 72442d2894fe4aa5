use Rattle.std.proofs.Common.{◌≡◌, ◌∙◌, ◌-◌, ℕ, Some, List, slice_get, ap, sym, subst, arith}
use Rattle.flow_item.specs.Lists.{first}
use Rattle.flow_machine.specs.Offers.{with_tag}
use Rattle.flow_join.specs.Tags.{RoomyPort, all_places}
use Rattle.flow_join.proofs.Slots.{Taken, taken, none-first, slot-item}
use Rattle.flow_join.proofs.key_port.KeyPort.part.Goals as goal

pub overflow_sub-places : goal.overflow_sub-places
overflow_sub-places c =
    let i = c.self.inside in
    let t = taken c.args.tag i.base i.slots.items _ _ (sym (c.self.invariant.queued c.args.tag) ∙ ap all_places (sym c.in-Some.ensures.value)) in
    let is = t.is in
    omega arith

pub index-requires : goal.index-requires
index-requires c =
    let i = c.self.inside in
    let t = taken c.args.tag i.base i.slots.items _ _ (sym (c.self.invariant.queued c.args.tag) ∙ ap all_places (sym c.in-Some.ensures.value)) in
    let is = t.is in
    let within = t.within in
    let len = i.slots.ok.0 in
    omega arith

pub returns-in-Some : goal.returns-in-Some
returns-in-Some c =
    let i = c.self.inside in
    let place = c.in-Some.places.now.first in
    let t = taken c.args.tag i.base i.slots.items _ _ (sym (c.self.invariant.queued c.args.tag) ∙ ap all_places (sym c.in-Some.ensures.value)) in
    let is = t.is in
    let slot : t.slot ≡ place - i.base = omega arith in
    let at = subst (λ (k : ℕ). slice_get i.slots.items k ≡ Some (Some t.item)) slot t.at in
    c.as_ref.ensures.value ∙ c.index.ensures ∙ slot-item i.slots.items (place - i.base) (Some t.item) c.index.result.now at ∙ sym t.oldest
    ∙ ap (λ (v : RoomyPort). first (with_tag c.args.tag v.items)) c.self.view_is

pub returns-in-None : goal.returns-in-None
returns-in-None c =
    let i = c.self.inside in
    sym (none-first c.args.tag i.base i.slots.items (sym (c.self.invariant.queued c.args.tag) ∙ ap all_places (sym c.in-None.ensures.value)))
    ∙ ap (λ (v : RoomyPort). first (with_tag c.args.tag v.items)) c.self.view_is
