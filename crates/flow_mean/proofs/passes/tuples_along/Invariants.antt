use Rattle.std.proofs.Common.{◌≡◌, ◌++◌, drop}
use Rattle.std.specs.List.{filter_map}
use Rattle.flow_mean.specs.Maps.{tuple_at}
use Rattle.flow_mean.proofs.passes.tuples_along.Given as goal

abbrev pub invariant-loop-pair : goal.invariant-loop-pair
invariant-loop-pair l = l.tuples.items ++ filter_map (tuple_at l.maps) (drop l.pair-index l.row) ≡ filter_map (tuple_at l.maps) l.row
