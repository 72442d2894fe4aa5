use Rattle.std.proofs.Common.{◌≡◌, ℕ, ◌<◌, ◌||◌, false, length, get_or, drop}
use Rattle.std.specs.List.{list_any}
use Rattle.flow_mean.specs.Determinate.{puts_to}
use Rattle.flow_mean.proofs.tables.mark_script.Given as goal

abbrev pub invariant-loop-step : goal.invariant-loop-step
invariant-loop-step l =
    (length l.marks ≡ length l.initial.marks)
    × ((n : ℕ) → n < length l.marks → (get_or l.marks n false || list_any (puts_to n) (drop l.step-index l.script)) ≡ (get_or l.initial.marks n false || list_any (puts_to n) l.script))
