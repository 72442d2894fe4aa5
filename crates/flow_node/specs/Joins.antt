-- A join's part in code, as contracts see it.
use Rattle.std.specs.Prelude.{◌≡◌, ℕ, ◌≤◌, Bool, true, ◌&&◌, if◌then◌else◌, nat_le, is_some, is_none, Option, Some, None, List, [], length, map, IfSome}
use Rattle.std.specs.Option.{option_map, unwrap_or}
use Rattle.flow_item.specs.declared.item.Id.{Id}
use Rattle.flow_item.specs.declared.item.Item.{Item}
use Rattle.flow_item.specs.Rooms.{Roomy}
use Rattle.flow_shape.specs.declared.Kind.{Kind}
use Rattle.flow_shape.specs.declared.Kind.TheVariants as K
use Rattle.flow_shape.specs.declared.Wire.{Wire}
use Rattle.flow_machine.specs.State.{JoinState, Part, join_part, new_cast, one_if, option_list}
use Rattle.flow_machine.specs.Offers.{tuple_parts, tuple_of}
use Rattle.flow_cast.specs.Casts.{RoomyCast}
use Rattle.flow_node.specs.NodeViews.{cast_item}
use Rattle.flow_node.specs.Parts.{cast_in, edges_over, is_roomy}
use Rattle.flow_node.specs.declared.join.Inputs.{Inputs}
use Rattle.flow_node.specs.declared.join.Inputs.TheVariants as J
use Rattle.flow_node.specs.declared.join.TupleRoom.{TupleRoom}

-- ---- what waits at the ports

abbrev pub ports_of : Inputs → List (List Item)
ports_of (J.Queue q) = q.ports
ports_of (J.Key k) = k.ports

-- the kind of a join with these ports
abbrev pub rule_of : Inputs → Kind
rule_of (J.Queue q) = K.QueueJoin (length q.ports)
rule_of (J.Key k) = K.KeyJoin (length k.ports)

-- the parts of the next tuple, where there is one
abbrev pub parts_of : Inputs → Option (List Item)
parts_of i = tuple_parts (rule_of i) (ports_of i)

-- the parts of the next tuple
abbrev pub ready_parts : Inputs → List Item
ready_parts i = unwrap_or (parts_of i) []

-- for how many more items there is room
abbrev pub inputs_spare : Inputs → ℕ
inputs_spare (J.Queue q) = q.spare
inputs_spare (J.Key k) = one_if (is_some k.ready_for)

-- the port and tag that this room is for, where it isn't for any
abbrev pub inputs_ready_for : Inputs → Option (ℕ × ℕ)
inputs_ready_for (J.Queue q) = None
inputs_ready_for (J.Key k) = k.ready_for

-- ---- with the tuple on offer

-- what waits at the ports, the cast in the slot, and for how many edges the next tuple has room, once the node is prepared for it
pub record JoinView : Type 0 where
  pub inputs : Inputs
  pub slot : Option RoomyCast
  pub room : Option ℕ

abbrev pub join_kind : JoinView → Kind
join_kind j = rule_of j.inputs

abbrev pub join_state : JoinView → JoinState
join_state j = record { ports = ports_of j.inputs; slot = option_map cast_in j.slot }

abbrev pub join_part_of : JoinView → Part
join_part_of j = join_part (join_state j)

-- the parts of the tuple that can be formed
abbrev pub tuple_in : JoinView → Option (List Item)
tuple_in j = if is_none (option_map cast_in j.slot) then parts_of j.inputs else None

-- the tuple on offer
abbrev pub slot_items : Option RoomyCast → List Item
slot_items o = map cast_item (option_list (option_map cast_in o))

-- the tuple of the parts on offer, with room for so many edges
abbrev pub tuple_cast : ℕ → ℕ → List Item → ℕ → RoomyCast
tuple_cast node number parts edges = record { cast = new_cast (tuple_of node number parts) 0; edges = edges }

abbrev pub is_slot_roomy : List Wire → Option RoomyCast → Bool
is_slot_roomy outs None = true
is_slot_roomy outs (Some c) = is_roomy outs c

-- whether there is room for the edges out of the port
abbrev pub has_tuple_room : List Wire → Option ℕ → Bool
has_tuple_room outs None = true
has_tuple_room outs (Some edges) = nat_le (length (edges_over outs 0)) edges

abbrev pub is_join_whole : List Wire → JoinView → Bool
is_join_whole outs j = is_slot_roomy outs j.slot && has_tuple_room outs j.room

abbrev pub room_edges : TupleRoom → ℕ
room_edges r = r.cast

-- the lists in which the next tuple is made are empty, and have room for a part of each port
pub record KeepsRoom (inputs : Inputs) (room : Option TupleRoom) (ids : Roomy Id) : Type 0 where
  pub none : ids.items ≡ []
  pub made : IfSome room (λ r. (r.vals.items ≡ []) × (length (ports_of inputs) ≤ r.vals.spare) × (length (ports_of inputs) ≤ ids.spare))
