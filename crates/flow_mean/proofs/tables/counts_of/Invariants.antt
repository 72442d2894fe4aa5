use Rattle.std.proofs.Common.{◌≡◌, ℕ, ◌<◌, ◌+◌, length, get_or, drop}
use Rattle.flow_mean.specs.Judging.{leaving}
use Rattle.flow_mean.proofs.tables.counts_of.Given as goal

abbrev pub invariant-loop-edge : goal.invariant-loop-edge
invariant-loop-edge l =
    (length l.outs.items ≡ length l.shape.nodes)
    × ((n : ℕ) → n < length l.shape.nodes → get_or l.outs.items n 0 + leaving (drop l.edge-index l.shape.edges) n ≡ leaving l.shape.edges n)
