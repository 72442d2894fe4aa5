use Rattle.std.proofs.Common.{◌≡◌, ℕ, ◌<◌, ◌+◌, ◌*◌, ◌++◌, [], length, get_or, drop}
use Rattle.std.specs.List.{flat_map}
use Rattle.flow_mean.specs.Meaning.{put_to}
use Rattle.flow_mean.proofs.ports.add_script.Given as goal

abbrev pub invariant-loop-step : goal.invariant-loop-step
invariant-loop-step l =
    (length l.lists.items ≡ length l.initial.lists.items)
    × ((n port : ℕ) → n * 8 + port < length l.initial.lists.items → port < 8 → get_or l.lists.items (n * 8 + port) [] ++ flat_map (put_to n port) (drop l.step-index l.script) ≡ get_or l.initial.lists.items (n * 8 + port) [] ++ flat_map (put_to n port) l.script)
