use Rattle.std.proofs.Common.{◌≡◌, ◌∙◌, ◌<◌, true, length, drop, ap, sym, arith, length-drop}
use Rattle.flow_item.specs.Lists.{first}
use Rattle.flow_join.specs.Tags.{is_hole}
use Rattle.flow_join.proofs.Slots.{hole-some, hole-filled, hole-places}
use Rattle.flow_join.proofs.key_port.drop_holes.Goals as goal

pub holes-preserved : goal.holes-preserved
holes-preserved c =
    let slots = c.holes.slots.items in
    let hole : is_hole (first slots) ≡ true = sym c.starts_with_hole.ensures ∙ c.holes-test.true in
    let some = hole-some slots hole in
    let old = c.holes.slots.ok.0 in
    let new = c.pop_front.new.self.ok.0 in
    let rest : length c.pop_front.new.self.items ≡ length (drop 1 slots) = ap length c.pop_front.ensures.rest in
    let fits = c.holes.invariant.fits in
    record {
      items = hole-filled slots c.pop_front.new.self.items hole c.pop_front.ensures.rest ∙ c.holes.invariant.items;
      places = λ tag. hole-places tag c.holes.base slots c.pop_front.new.self.items hole c.pop_front.ensures.rest ∙ c.holes.invariant.places tag;
      fits = omega (arith, length-drop 1 slots);
    }
