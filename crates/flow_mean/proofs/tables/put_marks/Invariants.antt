use Rattle.std.proofs.Common.{◌≡◌, ℕ, ◌<◌, ◌||◌, false, length, get_or, drop}
use Rattle.std.specs.List.{list_any}
use Rattle.flow_mean.specs.Determinate.{puts_to, is_put_to}
use Rattle.flow_mean.proofs.tables.put_marks.Given as goal

abbrev pub invariant-loop-script : goal.invariant-loop-script
invariant-loop-script l =
    (length l.marks.items ≡ length l.doc.shape.nodes)
    × ((n : ℕ) → n < length l.doc.shape.nodes → (get_or l.marks.items n false || list_any (list_any (puts_to n)) (drop l.script-index l.doc.scripts)) ≡ is_put_to l.doc n)
