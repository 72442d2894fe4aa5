use Rattle.std.proofs.Common.{◌≡◌, ℕ, ◌<◌, ◌++◌, [], length, get_or, drop}
use Rattle.flow_shape.specs.Sorting.{targets}
use Rattle.flow_mean.proofs.cycles.targets_of.Given as goal

abbrev pub invariant-loop-edge : goal.invariant-loop-edge
invariant-loop-edge l =
    (length l.lists.items ≡ length l.shape.nodes)
    × ((n : ℕ) → n < length l.shape.nodes → get_or l.lists.items n [] ++ targets (drop l.edge-index l.shape.edges) n ≡ targets l.shape.edges n)
