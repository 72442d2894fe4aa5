use Rattle.std.proofs.Common.{◌≡◌, drop}
use Rattle.flow_mean.specs.Maps.{values_at}
use Rattle.flow_mean.specs.Passing.{prefixed}
use Rattle.flow_mean.proofs.passes.values_of.Given as goal

abbrev pub invariant-loop-map : goal.invariant-loop-map
invariant-loop-map l = prefixed l.values.items (values_at l.tag (drop l.map-index l.maps)) ≡ values_at l.tag l.maps
