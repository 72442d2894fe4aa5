use Rattle.std.proofs.Common.{◌≡◌}
use Rattle.flow_book.proofs.Handing.{marked}
use Rattle.flow_book.proofs.close.waiting.Given as goal

abbrev pub invariant-loop-at : goal.invariant-loop-at
invariant-loop-at l = l.due ≡ marked l.at l.nodes
