use Rattle.std.proofs.Common.{◌≡◌, ℕ, ◌<◌, ◌++◌, [], length, get_or, drop}
use Rattle.flow_shape.specs.Sorting.{targets}
use Rattle.flow_shape.proofs.Shape.targets.Given as goal

abbrev pub invariant-loop-edge : goal.invariant-loop-edge
invariant-loop-edge l =
    (length l.lists.items ≡ length l.self.nodes)
    × ((n : ℕ) → n < length l.self.nodes → get_or l.lists.items n [] ++ targets (drop l.edge-index l.self.edges) n ≡ targets l.self.edges n)
