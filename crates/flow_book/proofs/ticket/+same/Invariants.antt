use Rattle.std.proofs.Common.{◌≡◌, drop, length}
use Rattle.flow_book.specs.Equal.{same_list}
use Rattle.flow_book.proofs.ticket.+same.Given as goal

abbrev pub invariant-same_vals-loop-x : goal.invariant-same_vals-loop-x
invariant-same_vals-loop-x l = (l.at ≡ l.x-index) × (length l.xs ≡ length l.ys) × (same_list (drop l.x-index l.xs) (drop l.x-index l.ys) ≡ same_list l.xs l.ys)
