use Rattle.std.proofs.Common.{◌≡◌, ℕ, ◌<◌, ◌||◌, ◌&&◌, eqb, false, length, get_or, drop}
use Rattle.std.specs.List.{list_any}
use Rattle.flow_shape.specs.declared.Edge.{Edge}
use Rattle.flow_mean.specs.Determinate.{comes_unasked}
use Rattle.flow_mean.specs.Judging.{comes_unasked_to}
use Rattle.flow_mean.proofs.tables.unasked_marks.Given as goal

abbrev pub invariant-loop-edge : goal.invariant-loop-edge
invariant-loop-edge l =
    (length l.marks.items ≡ length l.doc.shape.nodes)
    × ((n : ℕ) → n < length l.doc.shape.nodes → (get_or l.marks.items n false || list_any (λ (e : Edge). eqb e.to n && comes_unasked l.doc e) (drop l.edge-index l.doc.shape.edges)) ≡ comes_unasked_to l.doc n)
