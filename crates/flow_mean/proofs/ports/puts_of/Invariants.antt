use Rattle.std.proofs.Common.{◌≡◌, ℕ, ◌<◌, ◌+◌, ◌*◌, ◌++◌, [], length, get_or, drop}
use Rattle.std.specs.List.{flat_map}
use Rattle.flow_mean.specs.Meaning.{put_to}
use Rattle.flow_mean.proofs.ports.puts_of.Given as goal

abbrev pub invariant-loop-script : goal.invariant-loop-script
invariant-loop-script l =
    (length l.lists.items ≡ length l.doc.shape.nodes * 8)
    × ((n port : ℕ) → n < length l.doc.shape.nodes → port < 8 → get_or l.lists.items (n * 8 + port) [] ++ flat_map (flat_map (put_to n port)) (drop l.script-index l.doc.scripts) ≡ flat_map (flat_map (put_to n port)) l.doc.scripts)
