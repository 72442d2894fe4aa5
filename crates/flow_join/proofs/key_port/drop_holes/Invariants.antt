use Rattle.std.proofs.Common.{◌≡◌, ℕ, ◌+◌, deque_len}
use Rattle.flow_item.specs.Lists.{places as places_of}
use Rattle.flow_join.specs.Tags.{filled, holds_tag}
use Rattle.flow_join.proofs.key_port.drop_holes.Given as goal

abbrev pub invariant-holes : goal.invariant-holes
invariant-holes l = record {
  items : filled l.slots.items ≡ filled l.initial.slots.items;
  places : (tag : ℕ) → places_of (holds_tag tag) l.base l.slots.items ≡ places_of (holds_tag tag) l.initial.base l.initial.slots.items;
  fits : l.base + deque_len l.slots ≡ l.initial.base + deque_len l.initial.slots;
}

abbrev pub decreases-holes : goal.decreases-holes
decreases-holes l = deque_len l.slots
