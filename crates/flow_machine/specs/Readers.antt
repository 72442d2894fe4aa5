-- What the readers of a node answer.
use Rattle.std.specs.Prelude.{ℕ, Option, List, [], ◌++◌, map, slice_get}
use Rattle.std.specs.List.{find}
use Rattle.std.specs.Option.{option_map}
use Rattle.flow_item.specs.declared.item.Id.{Id}
use Rattle.flow_item.specs.declared.item.Item.{Item}
use Rattle.flow_shape.specs.Places.{Place}
use Rattle.flow_machine.specs.State.{Cast, Part, store_part, keeper_part, body_part, join_part, split_part, NodeState, option_list, casts_in}
use Rattle.flow_machine.specs.Offers.{next_tuple}
use Rattle.flow_machine.specs.Enabled.{is_numbered}
use Rattle.flow_machine.specs.WishEvents.{id_of, where_some}
use Rattle.flow_machine.specs.Ledger.{flattened}
use Rattle.flow_machine.specs.PrintOrder.{items_in_order}

-- the items that a node has beside those of its casts: stored or kept, of its bodies and tickets, at its ports
abbrev pub own_items : Part → List Item
own_items (store_part s) = s.items
own_items (keeper_part v) = option_list v.value
own_items (body_part w) = w.waiting ++ w.ready ++ w.running ++ w.tickets
own_items (join_part j) = flattened j.ports
own_items (split_part p) = p.waiting
own_items p = []

abbrev pub cast_item : Cast → Item
cast_item c = c.item

-- all items that a node has, those in its slot or outbox and its hands among them; what a reserving join holds is another node's
abbrev pub present_items : Part → List Item
present_items p = own_items p ++ map cast_item (casts_in p)

-- the present item or hand of this number
abbrev pub item_of_number : NodeState → ℕ → Option Item
item_of_number s number = find (is_numbered number) (present_items s.part)

-- the node's item at place k of the print order, counted from 0
abbrev pub item_at : Place → NodeState → ℕ → Option Item
item_at place s k = slice_get (items_in_order place.kind s.part) k

abbrev pub tickets_of : Part → List Item
tickets_of (body_part w) = w.tickets
tickets_of p = []

-- the item of the open ticket at place k, the oldest first, counted from 0
abbrev pub open_ticket : NodeState → ℕ → Option Item
open_ticket s k = slice_get (tickets_of s.part) k

-- the part of the next tuple at this input port of a join; nothing where no tuple may be formed
abbrev pub part_of : Place → NodeState → ℕ → Option Id
part_of place s port = where_some (next_tuple place s.part) (λ parts. option_map id_of (slice_get parts port))
