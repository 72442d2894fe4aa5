use Rattle.std.proofs.Common.{◌≡◌, drop, pos}
use Rattle.flow_machine.specs.PrintOrder.{items_in_order}
use Rattle.flow_gen.specs.Sums.{items_sum}
use Rattle.flow_gen.proofs.Sums.{plus}
use Rattle.flow_gen.proofs.summaries.node_sum.Given as goal

abbrev pub invariant-loop-at : goal.invariant-loop-at
invariant-loop-at l = record {
  stays : plus l.sum (pos 0) ≡ l.sum;
  sum : plus l.sum (items_sum (drop l.at (items_in_order l.node.node.place.kind l.node.node.state.part))) ≡ items_sum (items_in_order l.node.node.place.kind l.node.node.state.part);
}
