use Rattle.std.proofs.Common.{◌≡◌, ℕ, map, length}
use Rattle.std.specs.List.{All, AllWithin}
use Rattle.flow_join.specs.Queues.{ring_items, HasRoom}
use Rattle.flow_join.proofs.queue.reserve_each.Given as goal

abbrev pub invariant-loop-port : goal.invariant-loop-port
invariant-loop-port l = record {
  len : length l.rings.items ≡ length l.initial.rings.items;
  items : map ring_items l.rings.items ≡ map ring_items l.initial.rings.items;
  kept : (m : ℕ) → All (HasRoom m) l.initial.rings.items → All (HasRoom m) l.rings.items;
  made : AllWithin (HasRoom l.n) l.rings.items 0 l.port;
}
