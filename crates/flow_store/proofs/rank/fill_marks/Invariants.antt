use Rattle.std.proofs.Common.{◌≡◌, ◌≤◌, length, take, heap_items, vec_len, vec_capacity}
use Rattle.flow_store.specs.Ranks.{all_items}
use Rattle.flow_store.specs.Marks.{marks_from}
use Rattle.flow_store.proofs.rank.fill_marks.Given as goal

-- those that were passed have their marks
abbrev pub invariant-fill : goal.invariant-fill
invariant-fill l = record {
  marked : l.marks.items ≡ marks_from 0 (take l.place (all_items (heap_items l.ranks.heap) l.ranks.locked));
  len : vec_len l.marks ≡ l.place;
  room : length (all_items (heap_items l.ranks.heap) l.ranks.locked) ≤ vec_capacity l.marks;
}
