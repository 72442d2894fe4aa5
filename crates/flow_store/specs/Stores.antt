-- Stores with their room, as contracts see them.
use Rattle.std.specs.Prelude.{ℕ, Bool, true, false, is_none, nat_lt, Option, Some, None, Result, Ok, Err, List, []}
use Rattle.std.specs.List.{list_any, list_all}
use Rattle.flow_item.specs.declared.item.Item.{Item}
use Rattle.flow_item.specs.declared.event.Land.{Land}
use Rattle.flow_item.specs.declared.event.Cause.{Cause}
use Rattle.flow_shape.specs.declared.Kind.{Kind}
use Rattle.flow_shape.specs.Places.{Place}
use Rattle.flow_machine.specs.declared.Claim.{Claim}
use Rattle.flow_machine.specs.State.{StoreState, KeeperState, Part, store_part, keeper_part, option_list}
use Rattle.flow_machine.specs.Offers.{when, store_front, Room, lands, bars, part_room}
use Rattle.flow_machine.specs.Enabled.{is_numbered, first_is}
use Rattle.flow_machine.specs.After.{next_tag, unless_lost, part_after_arrival}
use Rattle.flow_store.specs.declared.store.Way.{Way}
use Rattle.flow_store.specs.declared.store.Way.TheVariants as W

-- a buffer or a queue: its capacity, its items and lock, and the number of puts that need no memory
pub record RoomyQueue : Type 0 where
  pub capacity : Option ℕ
  pub items : List Item
  pub lock : Option Claim
  pub spare : ℕ

abbrev pub queue_of : RoomyQueue → StoreState
queue_of v = record { items = v.items; lock = v.lock; next = 0 }

-- a priority node's items and lock, and the number of puts that need no memory
pub record RoomyRanks : Type 0 where
  pub items : List Item
  pub lock : Option Claim
  pub spare : ℕ

abbrev pub ranks_of : RoomyRanks → StoreState
ranks_of v = record { items = v.items; lock = v.lock; next = 0 }

-- a sequencer's items, lock and next tag, and the number of puts that need no memory
pub record RoomyTags : Type 0 where
  pub state : StoreState
  pub spare : ℕ

-- a kept value and its holds, and the number of holds that need no memory; the edges that it is owed are the node's
pub record RoomyKeeper : Type 0 where
  pub once : Bool
  pub value : Option Item
  pub holds : List Claim
  pub spare : ℕ

abbrev pub keeper_of : RoomyKeeper → KeeperState
keeper_of v = record { value = v.value; owed = []; holds = v.holds }

-- whether a caller brings the item
abbrev pub is_by_caller : Way → Bool
is_by_caller W.Caller = true
is_by_caller W.Edge = false

-- a node of this kind without edges
abbrev pub lone : Kind → Place
lone k = record { node = 0; kind = k; outs = []; ins = [] }

-- how the store receives an item with this tag
abbrev pub room_for : Kind → Part → ℕ → Way → Room
room_for k p tag way = part_room k [] 0 tag (is_by_caller way) p

abbrev pub room_told : Result Land Cause → Room
room_told (Ok land) = lands land
room_told (Err cause) = bars cause

-- what the store has after the item landed
abbrev pub after_put : Kind → Part → Land → Item → Part
after_put k p land i = unless_lost land p (part_after_arrival (lone k) [] p 0 i)

-- the items that may go
abbrev pub may_go : Kind → Part → List Item
may_go k (store_part s) = when (is_none s.lock) (store_front k s.items s.next)
may_go k (keeper_part v) = option_list v.value
may_go k p = []

-- whether the item of this number may go
abbrev pub goes : Kind → Part → ℕ → Bool
goes k p number = list_any (is_numbered number) (may_go k p)

-- the tag that a sequencer waits for once it gave an item
abbrev pub tag_after : Kind → Part → ℕ
tag_after k (store_part s) = next_tag k s.next
tag_after k p = 0

-- the room that a put takes, and that a hold takes
abbrev pub put_room : Part → ℕ
put_room (store_part s) = 1
put_room p = 0

abbrev pub hold_room : Part → ℕ
hold_room (keeper_part v) = 1
hold_room p = 0

-- whether the number is above those of the items, as a node's next number is
abbrev pub is_new : ℕ → List Item → Bool
is_new number items = list_all (λ (i : Item). nat_lt i.id.no number) items

-- a queue locks its oldest item
abbrev pub locks_first : Option Claim → List Item → Bool
locks_first None items = true
locks_first (Some c) items = first_is c.item items

-- a lock is of an item that is there
abbrev pub locks_one : Option Claim → List Item → Bool
locks_one None items = true
locks_one (Some c) items = list_any (is_numbered c.item) items
