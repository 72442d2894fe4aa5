-- The port of a key-matching join, as contracts see it: its items in a ring with holes, and for each tag the places of its items.
use Rattle.std.specs.Prelude.{◌≡◌, ℕ, ◌+◌, ◌<◌, ◌^◌, Bool, true, false, nat_eq, Option, Some, None, List, [], ◌∷◌, length}
use Rattle.std.specs.Option.{MatchOption}
use Rattle.std.specs.declared.collections.VecDeque.{VecDeque}
use Rattle.std.specs.VecDeque.{deque_capacity, deque_len}
use Rattle.std.specs.HashMap.{HashMap, get, spare}
use Rattle.std.specs.declared.alloc.Global.{Global}
use Rattle.flow_item.specs.declared.item.Item.{Item}
use Rattle.flow_item.specs.Lists.{places}
use Rattle.flow_machine.specs.After.{has_tag}
use Rattle.flow_join.specs.declared.tags.Places.{Places}

-- the items that wait at a port, the oldest first, and the tag, if any, of which one more may come without memory
pub record RoomyPort : Type 0 where
  pub items : List Item
  pub ready : Option ℕ

-- the items of a ring with holes
abbrev pub filled : List (Option Item) → List Item
filled [] = []
filled (None ∷ slots) = filled slots
filled (Some i ∷ slots) = i ∷ filled slots

abbrev pub is_hole : Option (Option Item) → Bool
is_hole (Some None) = true
is_hole _ = false

abbrev pub is_item : Option (Option Item) → Bool
is_item (Some (Some i)) = true
is_item _ = false

-- whether a slot has an item of the tag
abbrev pub holds_tag : ℕ → Option Item → Bool
holds_tag tag None = false
holds_tag tag (Some i) = has_tag tag i

abbrev pub all_places : Option Places → List ℕ
all_places None = []
all_places (Some p) = p.first ∷ p.later.items

-- the places of a tag's items, the oldest first
abbrev pub places_at : {S : Type 0} → HashMap ℕ Places S → ℕ → List ℕ
places_at m tag = all_places (get nat_eq m tag)

-- one more place of the tag needs no memory
abbrev pub HasTagRoom : {S : Type 0} → HashMap ℕ Places S → ℕ → Type 0
HasTagRoom m tag = MatchOption (get nat_eq m tag) (0 < spare m) (λ p. deque_len p.later < deque_capacity p.later)

module _ {S : Type 0} (slots : VecDeque (Option Item) Global) (base : ℕ) (by_tag : HashMap ℕ Places S) where
  -- room for one more item of the tag: a slot, a place that was never used, and a place in the tag's list
  pub record IsReadyFor (tag : ℕ) : Type 0 where
    pub slot : deque_len slots < deque_capacity slots
    pub place : base + deque_len slots + 1 < 2 ^ 64
    pub listed : HasTagRoom by_tag tag

  -- the places of each tag are those of the slots with an item of it
  pub record KeepsPort (ready : Option ℕ) : Type 0 where
    pub fits : base + deque_len slots < 2 ^ 64
    pub queued : (tag : ℕ) → places_at by_tag tag ≡ places (holds_tag tag) base slots.items
    pub room : (tag : ℕ) → ready ≡ Some tag → IsReadyFor tag
