use Rattle.std.proofs.Common.{◌≡◌, ℕ, ◌<◌, ◌+◌, ◌*◌, ◌++◌, [], length, get_or, drop}
use Rattle.std.specs.List.{flat_map}
use Rattle.flow_mean.specs.Passing.{source_of}
use Rattle.flow_mean.proofs.ports.sources_along.Given as goal

abbrev pub invariant-loop-edge : goal.invariant-loop-edge
invariant-loop-edge l =
    (length l.lists.items ≡ length l.shape.nodes * 8)
    × ((n port : ℕ) → n < length l.shape.nodes → port < 8 → get_or l.lists.items (n * 8 + port) [] ++ flat_map (source_of n port) (drop l.edge-index l.shape.edges) ≡ flat_map (source_of n port) l.shape.edges)
