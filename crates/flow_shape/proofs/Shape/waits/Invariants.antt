use Rattle.std.proofs.Common.{◌≡◌, ℕ, ◌<◌, ◌+◌, [], length, get_or, drop}
use Rattle.flow_shape.specs.Sorting.{waits}
use Rattle.flow_shape.proofs.Shape.waits.Given as goal

abbrev pub invariant-loop-edge : goal.invariant-loop-edge
invariant-loop-edge l =
    (length l.counts.items ≡ length l.self.nodes)
    × ((m : ℕ) → m < length l.self.nodes → get_or l.counts.items m 0 + waits (drop l.edge-index l.self.edges) [] m ≡ waits l.self.edges [] m)
