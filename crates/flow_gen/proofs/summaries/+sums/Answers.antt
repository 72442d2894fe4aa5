use Rattle.std.proofs.Common.{ap, drop, length, rules}
use Rattle.std.specs.Int.{w64, cast_signed, cast_unsigned}
use Rattle.flow_gen.specs.Generated.{whole_sum}
use Rattle.flow_gen.proofs.Sums.{stays_zero, stays_sum, sum_begins, sum_more, sum_done, next_read, none_left}
use Rattle.flow_gen.proofs.summaries.+sums.Goals as goal

pub values_sum-loop-part-init : goal.values_sum-loop-part-init
values_sum-loop-part-init t c = record { items = search rules; stays = stays_zero; sum = sum_begins whole_sum c.args.parts.now }

pub values_sum-loop-part-preserved : goal.values_sum-loop-part-preserved
values_sum-loop-part-preserved t c = record {
  items = c.loop-part.invariant.items;
  stays = stays_sum (cast_signed w64 c.loop-part.sum-bits) (cast_signed w64 (cast_unsigned w64 c.whole_sum.result)) c.plus-sum.result c.plus-sum.ensures;
  sum = sum_more whole_sum c.args.parts.now c.loop-part.part-index c.part-item.result (cast_signed w64 c.loop-part.sum-bits) (cast_signed w64 (cast_unsigned w64 c.whole_sum.result)) c.plus-sum.result _
      (next_read c.args.parts.now c.as_slice-part-items.result.now c.loop-part.part-index c.part-item.result c.as_slice-part-items.ensures c.loop-part-test.true c.part-item.is)
      c.plus-sum.ensures (search rules) c.loop-part.invariant.sum;
}

pub values_sum-returns : goal.values_sum-returns
values_sum-returns t c =
    sum_done whole_sum (drop c.loop-part.part-index c.args.parts.now) (cast_signed w64 c.loop-part.sum-bits) _
    (none_left c.args.parts.now (length c.as_slice-part-items.result.now) c.loop-part.part-index (ap (λ xs. length xs) c.as_slice-part-items.ensures) c.loop-part-test.false)
    c.loop-part.invariant.stays c.loop-part.invariant.sum
