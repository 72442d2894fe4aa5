use Rattle.std.proofs.Common.{Some, sym, ap, subst, ◌∙◌, rules}
use Rattle.flow_mean.specs.Maps.{value_at}
use Rattle.flow_mean.specs.Passing.{Rising}
use Rattle.flow_mean.proofs.Tuples.{rising-at, values-first, values-on, values-gone, values-end}
use Rattle.flow_mean.proofs.passes.values_of.Goals as goal

pub value_of-requires : goal.value_of-requires
value_of-requires c = subst Rising (sym c.as_slice.ensures) (rising-at c.args.maps.now c.loop-map.map-index c.map-item.result c.map-item.result c.requires c.loop-map-test.true c.map-item.is)

pub loop-map-init : goal.loop-map-init
loop-map-init c = values-first c.args.tag c.args.maps.now c.in_ok-values.values.items c.in_ok-values.ensures.items

pub returns-in-None : goal.returns-in-None
returns-in-None c = values-gone c.args.tag c.args.maps.now c.loop-map.map-index c.map-item.result c.loop-map.values.items c.loop-map-test.true c.map-item.is c.loop-map.invariant (c.in-None.ensures ∙ ap (value_at c.args.tag) c.as_slice.ensures)

pub loop-map-preserved : goal.loop-map-preserved
loop-map-preserved c = values-on c.args.tag c.args.maps.now c.loop-map.map-index c.map-item.result c.loop-map.values.items c.loop-map-test.true c.map-item.is c.loop-map.invariant c.in_ok-copy-in-Some.field-0 c.push.new.self.items (ap Some c.in_ok-copy-in-Some.ensures ∙ c.in-Some.ensures ∙ ap (value_at c.args.tag) c.as_slice.ensures) (search rules)

pub returns : goal.returns
returns c = ap Some c.from_vec.ensures ∙ values-end c.args.tag c.args.maps.now c.loop-map.map-index c.loop-map.values.items c.loop-map-test.false c.loop-map.invariant
