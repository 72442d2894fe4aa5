use Rattle.std.proofs.Common.{◌≡◌, ◌-◌, ◌++◌, List, map, length}
use Rattle.flow_item.specs.declared.item.Item.{Item}
use Rattle.flow_item.specs.Lists.{first, drop_first}
use Rattle.flow_item.specs.Rooms.{roomy}
use Rattle.flow_machine.specs.Offers.{with_tag}
use Rattle.flow_machine.specs.After.{has_tag}
use Rattle.flow_machine.specs.WishEvents.{id_of}
use Rattle.flow_join.specs.Keys.{port_items}
use Rattle.flow_join.proofs.Ports.{changed_to, given_to}
use Rattle.flow_join.proofs.key.take_parts.Given as goal

abbrev pub invariant-loop-port : goal.invariant-loop-port
invariant-loop-port l = record {
  len : length l.ports.items ≡ length l.initial.ports.items;
  ports : map port_items l.ports.items ≡ changed_to (drop_first (has_tag l.tag)) l.port (map port_items l.initial.ports.items);
  ids : l.ids ≡ roomy (l.initial.ids.items ++ map id_of (given_to (λ (is : List Item). first (with_tag l.tag is)) l.port (map port_items l.initial.ports.items))) (l.initial.ids.spare - l.port);
  vals : l.vals ≡ roomy (l.initial.vals.items ++ map (λ (i : Item). i.val) (given_to (λ (is : List Item). first (with_tag l.tag is)) l.port (map port_items l.initial.ports.items))) (l.initial.vals.spare - l.port);
}
