use Rattle.std.proofs.Common.{◌∙◌}
use Rattle.flow_mean.proofs.Tuples.{join-some, join-none}
use Rattle.flow_mean.proofs.passes.join.Goals as goal

pub returns-then-maps-eq0 : goal.returns-then-maps-eq0
returns-then-maps-eq0 c = c.new.ensures ∙ join-none c.args.maps.now c.if-maps-eq0.true

pub returns : goal.returns
returns c = join-some c.args.maps.now c.as_slice.result.now c.index-maps-0.result c.in_ok-tuples.tuples c.if-maps-eq0.false (c.as_slice.ensures ∙ c.index-maps-0.is) c.in_ok-tuples.ensures
