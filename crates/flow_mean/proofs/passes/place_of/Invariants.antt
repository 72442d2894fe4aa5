use Rattle.std.proofs.Common.{◌≡◌, ℕ, ◌-◌, ◌<◌, ◌≤◌, Some, length}
use Rattle.std.specs.Prelude.{slice_get}
use Rattle.flow_item.specs.Pairs.{Pair}
use Rattle.flow_mean.proofs.passes.place_of.Given as goal

abbrev pub invariant-loop-low : goal.invariant-loop-low
invariant-loop-low l = record {
  order : l.low ≤ l.high;
  within : l.high ≤ length l.map;
  below : (i : ℕ) (p : Pair) → i < l.low → slice_get l.map i ≡ Some p → p.0 < l.tag;
  above : (i : ℕ) (p : Pair) → l.high ≤ i → slice_get l.map i ≡ Some p → l.tag ≤ p.0;
}

abbrev pub decreases-loop-low : goal.decreases-loop-low
decreases-loop-low l = l.high - l.low
