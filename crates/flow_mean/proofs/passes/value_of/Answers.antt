use Rattle.std.proofs.Common.{sym, ap, ◌∙◌}
use Rattle.flow_item.specs.Pairs.{Pair}
use Rattle.flow_mean.proofs.Tuples.{none-past, none-there, some-there}
use Rattle.flow_mean.proofs.passes.value_of.Goals as goal

pub returns-then-place-map : goal.returns-then-place-map
returns-then-place-map c = none-past c.args.map.now c.args.tag c.place_of-place.result c.requires c.place_of-place.ensures.below c.place_of-place.ensures.above c.if-place-map.true

pub returns-then-map-place : goal.returns-then-map-place
returns-then-map-place c = some-there c.args.map.now c.args.tag c.place_of-place.result c.requires c.place_of-place.ensures.below c.place_of-place.ensures.above c.index-map-place.result c.index-map-place-then-map-place.result c.if-place-map.false c.index-map-place.is (ap (λ (p : Pair). p.0) c.index-map-place.is ∙ c.if-map-place.true)

pub returns-else-map-place : goal.returns-else-map-place
returns-else-map-place c = none-there c.args.map.now c.args.tag c.place_of-place.result c.requires c.place_of-place.ensures.below c.place_of-place.ensures.above c.index-map-place.result c.if-place-map.false c.index-map-place.is (λ e. c.if-map-place.false (sym (ap (λ (p : Pair). p.0) c.index-map-place.is) ∙ e))
