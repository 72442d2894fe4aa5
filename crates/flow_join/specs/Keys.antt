-- A key-matching join with its room, as contracts see it.
use Rattle.std.specs.Prelude.{◌≡◌, ℕ, ◌<◌, ◌≤◌, Bool, if◌then◌else◌, nat_eq, Option, Some, List, [], map, length, slice_get}
use Rattle.std.specs.List.{list_any, list_all, sum_by}
use Rattle.std.specs.Option.{unwrap_or, MatchOption}
use Rattle.std.specs.Ordering.{nat_cmp}
use Rattle.std.specs.declared.cmp.Ordering.{Ordering}
use Rattle.std.specs.declared.cmp.Reverse.{Reverse}
use Rattle.std.specs.declared.collections.BinaryHeap.{BinaryHeap}
use Rattle.std.specs.BinaryHeap.{heap_items, heap_len, heap_capacity, IsHeap}
use Rattle.std.specs.declared.alloc.Global.{Global}
use Rattle.flow_item.specs.declared.item.Item.{Item}
use Rattle.flow_shape.specs.declared.Kind.{Kind}
use Rattle.flow_shape.specs.declared.Kind.TheVariants as K
use Rattle.flow_machine.specs.Offers.{tuple_parts}
use Rattle.flow_machine.specs.After.{has_tag}
use Rattle.flow_join.specs.Tags.{RoomyPort}

-- the items at the ports, and the port and tag whose next item needs no memory; the slot is the node's
pub record RoomyKeyJoin : Type 0 where
  pub ports : List (List Item)
  pub ready_for : Option (ℕ × ℕ)

abbrev pub key_kind_of : RoomyKeyJoin → Kind
key_kind_of v = K.KeyJoin (length v.ports)

-- the parts of the next tuple, where there is one
abbrev pub next_key_parts : RoomyKeyJoin → Option (List Item)
next_key_parts v = tuple_parts (key_kind_of v) v.ports

-- the parts that `form` takes
abbrev pub key_taken : RoomyKeyJoin → List Item
key_taken v = unwrap_or (next_key_parts v) []

abbrev pub port_items : RoomyPort → List Item
port_items p = p.items

-- whether an item of the tag waits at each port
abbrev pub at_each : ℕ → List RoomyPort → Bool
at_each tag ps = list_all (λ (p : RoomyPort). list_any (has_tag tag) p.items) ps

-- the order of the heap: the least tag is the greatest of it
abbrev pub least_first : Reverse ℕ → Reverse ℕ → Ordering
least_first x y = nat_cmp y.0 x.0

-- how often a tag stands in the heap
abbrev pub count_tag : ℕ → List (Reverse ℕ) → ℕ
count_tag tag rs = sum_by (λ (r : Reverse ℕ). if nat_eq r.0 tag then 1 else 0) rs

-- the least tag of the heap, where it has one
abbrev pub IsLeastTag : List (Reverse ℕ) → Option ℕ → Type 0
IsLeastTag rs o = MatchOption o ((tag : ℕ) → count_tag tag rs ≡ 0) (λ x. (0 < count_tag x rs) × ((tag : ℕ) → 0 < count_tag tag rs → x ≤ tag))

-- from 1 to 8 ports; the heap has each tag that is at each port, once; what was reserved is there
pub record KeepsKeys (ports : List RoomyPort) (complete : BinaryHeap (Reverse ℕ) Global) (ready_for : Option (ℕ × ℕ)) : Type 0 where
  pub some : 1 ≤ length ports
  pub few : length ports ≤ 8
  pub ordered : IsHeap least_first (heap_items complete)
  pub counted : (tag : ℕ) → count_tag tag (heap_items complete) ≡ (if at_each tag ports then 1 else 0)
  pub ready : (r : ℕ × ℕ) (p : RoomyPort) → ready_for ≡ Some r → slice_get ports r.0 ≡ Some p → p.ready ≡ Some r.1
  pub room : (r : ℕ × ℕ) → ready_for ≡ Some r → heap_len complete < heap_capacity complete
