use Rattle.std.proofs.Common.{◌≡◌, ◌++◌, vec_len}
use Rattle.std.specs.Prelude.{map, reverse}
use Rattle.std.specs.List.{flat_map}
use Rattle.flow_item.specs.Pairs.{Pair, pair_of_msg}
use Rattle.flow_mean.proofs.passes.answers.Given as goal

abbrev pub invariant-loop-pair : goal.invariant-loop-pair
invariant-loop-pair g l = l.pairs.items ++ flat_map (λ (p : Pair). map pair_of_msg ((goal.Body-dyn g l.body.now).out l.body.now.1 l.arg p.0 p.1)) (reverse l.left.items) ≡ flat_map (λ (p : Pair). map pair_of_msg ((goal.Body-dyn g l.body.now).out l.body.now.1 l.arg p.0 p.1)) l.fn.arrived

abbrev pub decreases-loop-pair : goal.decreases-loop-pair
decreases-loop-pair g l = vec_len l.left
