use Rattle.std.proofs.Common.{◌≡◌, ℕ, [], length, get_or}
use Rattle.flow_mean.proofs.ports.empty_orders.Given as goal

abbrev pub invariant-loop-made : goal.invariant-loop-made
invariant-loop-made l = (length l.lists.items ≡ l._made) × ((n : ℕ) → get_or l.lists.items n [] ≡ [])
