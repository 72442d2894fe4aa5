use Rattle.std.proofs.Common.{drop, rules}
use Rattle.flow_item.specs.declared.item.Item.{Item}
use Rattle.flow_machine.specs.PrintOrder.{items_in_order}
use Rattle.std.specs.Int.{w64, cast_signed, cast_unsigned}
use Rattle.flow_gen.specs.Generated.{whole_sum}
use Rattle.flow_gen.proofs.Sums.{stays_zero, stays_sum, sum_begins, sum_more, sum_done, next_found, none_left}
use Rattle.flow_gen.proofs.summaries.node_sum.Goals as goal

pub loop-at-init : goal.loop-at-init
loop-at-init c = record { stays = stays_zero; sum = sum_begins (λ (i : Item). whole_sum i.val) (items_in_order c.args.node.now.node.place.kind c.args.node.now.node.state.part) }

pub loop-at-preserved : goal.loop-at-preserved
loop-at-preserved c = record {
  stays = stays_sum (cast_signed w64 c.loop-at.sum-bits) (cast_signed w64 (cast_unsigned w64 c.whole_sum.result)) c.plus-sum.result c.plus-sum.ensures;
  sum = sum_more (λ (i : Item). whole_sum i.val) (items_in_order c.args.node.now.node.place.kind c.args.node.now.node.state.part) c.loop-at.at c.item_at.result.now (cast_signed w64 c.loop-at.sum-bits) (cast_signed w64 (cast_unsigned w64 c.whole_sum.result)) c.plus-sum.result _
      (next_found (items_in_order c.args.node.now.node.place.kind c.args.node.now.node.state.part) c.loop-at.at c.item_at.result.now c.item_at.ensures)
      c.plus-sum.ensures (search rules) c.loop-at.invariant.sum;
}

pub returns : goal.returns
returns c =
    sum_done (λ (i : Item). whole_sum i.val) (drop c.loop-at.at (items_in_order c.args.node.now.node.place.kind c.args.node.now.node.state.part)) (cast_signed w64 c.loop-at.sum-bits) _
    (none_left (items_in_order c.args.node.now.node.place.kind c.args.node.now.node.state.part) c.item_count-at-end.result c.loop-at.at c.item_count-at-end.ensures c.loop-at-test.false)
    c.loop-at.invariant.stays c.loop-at.invariant.sum
