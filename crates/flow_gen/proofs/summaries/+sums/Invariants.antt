use Rattle.std.proofs.Common.{◌≡◌, drop, pos}
use Rattle.flow_gen.specs.Sums.{values_sum}
use Rattle.flow_gen.proofs.Sums.{plus}
use Rattle.flow_gen.proofs.summaries.+sums.Given as goal

abbrev pub invariant-values_sum-loop-part : goal.invariant-values_sum-loop-part
invariant-values_sum-loop-part l = record {
  items : l.part-items ≡ l.parts;
  stays : plus l.sum (pos 0) ≡ l.sum;
  sum : plus l.sum (values_sum (drop l.part-index l.parts)) ≡ values_sum l.parts;
}
