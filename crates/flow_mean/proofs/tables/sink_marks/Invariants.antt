use Rattle.std.proofs.Common.{◌≡◌, ℕ, ◌<◌, ◌||◌, false, length, get_or, drop}
use Rattle.flow_item.specs.Lists.{has}
use Rattle.flow_mean.proofs.tables.sink_marks.Given as goal

abbrev pub invariant-loop-sink : goal.invariant-loop-sink
invariant-loop-sink l =
    (length l.marks.items ≡ length l.doc.shape.nodes)
    × ((n : ℕ) → n < length l.doc.shape.nodes → (get_or l.marks.items n false || has (drop l.sink-index l.doc.sinks) n) ≡ has l.doc.sinks n)
