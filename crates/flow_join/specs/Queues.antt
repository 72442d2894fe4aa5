-- A queueing join with its room, as contracts see it.
use Rattle.std.specs.Prelude.{◌≡◌, ℕ, ◌+◌, ◌≤◌, Bool, not, nat_eq, Option, List, [], length}
use Rattle.std.specs.List.{All}
use Rattle.std.specs.Option.{unwrap_or}
use Rattle.std.specs.declared.collections.VecDeque.{VecDeque}
use Rattle.std.specs.VecDeque.{deque_capacity, deque_len}
use Rattle.std.specs.declared.alloc.Global.{Global}
use Rattle.flow_item.specs.declared.item.Item.{Item}
use Rattle.flow_shape.specs.declared.Kind.{Kind}
use Rattle.flow_shape.specs.declared.Kind.TheVariants as K
use Rattle.flow_machine.specs.Offers.{tuple_parts}

-- the items at the ports, and how many may come, at whichever ports, without memory; the slot is the node's
pub record RoomyQueueJoin : Type 0 where
  pub ports : List (List Item)
  pub spare : ℕ

abbrev pub kind_of : RoomyQueueJoin → Kind
kind_of v = K.QueueJoin (length v.ports)

-- the parts of the next tuple, where there is one
abbrev pub next_parts : RoomyQueueJoin → Option (List Item)
next_parts v = tuple_parts (kind_of v) v.ports

-- the parts that `form` takes
abbrev pub taken : RoomyQueueJoin → List Item
taken v = unwrap_or (next_parts v) []

-- the items of a ring
abbrev pub ring_items : VecDeque Item Global → List Item
ring_items q = q.items

-- whether a ring has an item
abbrev pub is_filled : VecDeque Item Global → Bool
is_filled q = not (nat_eq (deque_len q) 0)

-- a ring has room for so many more
abbrev pub HasRoom : ℕ → VecDeque Item Global → Type 0
HasRoom n q = deque_len q + n ≤ deque_capacity q

-- from 1 to 8 ports, and room in each ring
pub record KeepsRings (rings : List (VecDeque Item Global)) (spare : ℕ) : Type 0 where
  pub some : 1 ≤ length rings
  pub few : length rings ≤ 8
  pub room : All (HasRoom spare) rings
