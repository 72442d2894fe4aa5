use Rattle.std.proofs.Common.{rules, arith, ◌≡◌, ◌+◌, ◌-◌, ℕ, length}
use Rattle.flow_book.proofs.open.seat_nodes.Goals as goal

one_less : (count all at : ℕ) → count ≡ all → count - 1 - at ≡ all - (at + 1)
one_less count all at same = grind (arith)

pub loop-at-preserved : goal.loop-at-preserved
loop-at-preserved g c = (rw (← by_number) c.seat_node.ensures, search rules)
  where
    by_number : c.len-count.result - 1 - c.loop-at.at ≡ length c.args.run.now.shape.nodes - (c.loop-at.at + 1)
    by_number = one_less c.len-count.result (length c.args.run.now.shape.nodes) c.loop-at.at c.len-count.ensures
