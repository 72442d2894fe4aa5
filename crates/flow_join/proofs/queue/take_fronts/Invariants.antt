use Rattle.std.proofs.Common.{◌≡◌, ◌-◌, ◌++◌, ℕ, map, length}
use Rattle.std.specs.List.{All}
use Rattle.flow_item.specs.declared.item.Item.{Item}
use Rattle.flow_item.specs.Lists.{first, rest}
use Rattle.flow_item.specs.Rooms.{roomy}
use Rattle.flow_machine.specs.WishEvents.{id_of}
use Rattle.flow_join.specs.Queues.{ring_items, HasRoom}
use Rattle.flow_join.proofs.Ports.{changed_to, given_to}
use Rattle.flow_join.proofs.queue.take_fronts.Given as goal

abbrev pub invariant-loop-port : goal.invariant-loop-port
invariant-loop-port l = record {
  len : length l.rings.items ≡ length l.initial.rings.items;
  rings : map ring_items l.rings.items ≡ changed_to rest l.port (map ring_items l.initial.rings.items);
  ids : l.ids ≡ roomy (l.initial.ids.items ++ map id_of (given_to first l.port (map ring_items l.initial.rings.items))) (l.initial.ids.spare - l.port);
  vals : l.vals ≡ roomy (l.initial.vals.items ++ map (λ (i : Item). i.val) (given_to first l.port (map ring_items l.initial.rings.items))) (l.initial.vals.spare - l.port);
  room : (m : ℕ) → All (HasRoom m) l.initial.rings.items → All (HasRoom m) l.rings.items;
}
