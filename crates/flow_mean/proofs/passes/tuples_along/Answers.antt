use Rattle.std.proofs.Common.{◌∙◌}
use Rattle.flow_mean.proofs.Tuples.{join-first, join-on, join-end}
use Rattle.flow_mean.proofs.passes.tuples_along.Goals as goal

pub loop-pair-init : goal.loop-pair-init
loop-pair-init c = join-first c.args.maps.now c.args.row.now c.new-tuples.result.items c.new-tuples.ensures.items

pub loop-pair-preserved : goal.loop-pair-preserved
loop-pair-preserved c = join-on c.args.maps.now c.args.row.now c.loop-pair.pair-index c.pair-item.result c.loop-pair-test.true c.pair-item.is c.loop-pair.tuples.items c.add_tuple.new.tuples.items c.in_ok-add_tuple.ensures c.loop-pair.invariant

pub returns : goal.returns
returns c = c.from_vec.ensures ∙ join-end c.args.maps.now c.args.row.now c.loop-pair.pair-index c.loop-pair.tuples.items c.loop-pair-test.false c.loop-pair.invariant
