-- A node in code, as contracts see it: what all kinds have, and its part.
use Rattle.std.specs.Prelude.{◌≡◌, ℕ, ◌+◌, ◌≤◌, Bool, true, ◌&&◌, nat_lt, nat_le, List, Option, None, [], length, vec_len, vec_capacity, is_some}
use Rattle.flow_node.specs.Joins.{join_kind, join_part_of, inputs_spare, inputs_ready_for, is_join_whole}
use Rattle.std.specs.List.{list_all}
use Rattle.flow_shape.specs.declared.Kind.{Kind}
use Rattle.flow_shape.specs.declared.Wire.{Wire}
use Rattle.flow_shape.specs.Places.{Place}
use Rattle.flow_machine.specs.State as S
use Rattle.flow_machine.specs.State.{NodeState, PlacedNode}
use Rattle.flow_cast.specs.Casts.{RoomyCast}
use Rattle.flow_store.specs.Stores.{is_new}
use Rattle.flow_node.specs.Built.{is_built, is_wire_of}
use Rattle.flow_node.specs.Parts.{store_kind, store_state, store_spare, function_kind, function_part, are_roomy}
use Rattle.flow_node.specs.declared.base.Base.{Base}
use Rattle.flow_node.specs.declared.part.Part.{Part}
use Rattle.flow_node.specs.declared.part.Part.TheVariants as P

-- ---- a part of any kind

abbrev pub kind_of : Part → Kind
kind_of (P.Store s) = store_kind s
kind_of (P.Function f) = function_kind f
kind_of (P.Join j) = join_kind j

abbrev pub part_of : Part → S.Part
part_of (P.Store s) = S.store_part (store_state s)
part_of (P.Function f) = function_part f
part_of (P.Join j) = join_part_of j

-- for how many more items there is room
abbrev pub spare_of : Part → ℕ
spare_of (P.Store s) = store_spare s
spare_of (P.Function f) = f.spare
spare_of (P.Join j) = inputs_spare j.inputs

-- the port and tag that this room is for, where it isn't for any
abbrev pub ready_for_of : Part → Option (ℕ × ℕ)
ready_for_of (P.Join j) = inputs_ready_for j.inputs
ready_for_of p = None

-- whether it has what the next tuple is made in, where it forms tuples
abbrev pub can_form : Part → Bool
can_form (P.Join j) = is_some j.room
can_form p = true

-- the casts that it is prepared with
abbrev pub coming_of : Part → List RoomyCast
coming_of (P.Store s) = []
coming_of (P.Function f) = f.coming
coming_of (P.Join j) = []

-- whether each of its casts has room for the edges that it may meet
abbrev pub is_whole : List Wire → Part → Bool
is_whole outs (P.Store s) = true
is_whole outs (P.Function f) = are_roomy outs f.outbox && are_roomy outs f.coming
is_whole outs (P.Join j) = is_join_whole outs j

-- ---- with what all kinds have

abbrev pub place_with : Base → Kind → Place
place_with b k = record { node = b.node; kind = k; outs = b.outs.items; ins = b.ins.items }

abbrev pub state_with : Base → S.Part → NodeState
state_with b p = record { made = b.made; push = b.push.items; pull = []; due = b.due; part = p }

abbrev pub place_of : Base → Part → Place
place_of b p = place_with b (kind_of p)

abbrev pub state_of : Base → Part → NodeState
state_of b p = state_with b (part_of p)

abbrev pub placed : Base → Part → PlacedNode
placed b p = record { place = place_of b p; state = state_of b p }

-- whether there is room for one more edge in push
abbrev pub has_edge_room : Base → Bool
has_edge_room b = nat_lt (vec_len b.push) (vec_capacity b.push)

-- the items of a store are numbered below the node's next number, and a sequencer waits for no tag that is above the number of items that came
abbrev pub is_counted : ℕ → S.Part → Bool
is_counted made (S.store_part s) = is_new made s.items && nat_le (s.next + length s.items) made
is_counted made p = true

-- it is of a kind that there is code for, its out edges have the facts of its kind, its casts have their room, its items are numbered, and the numbers that are left are enough for the casts that it is prepared with
pub record IsKept (b : Base) (p : Part) : Type 0 where
  pub built : is_built (kind_of p) ≡ true
  pub wires : list_all (is_wire_of (kind_of p)) b.outs.items ≡ true
  pub whole : is_whole b.outs.items p ≡ true
  pub counted : is_counted b.made (part_of p) ≡ true
  pub numbers : b.made + length (coming_of p) ≤ 18446744073709551615

-- the part changed so, and no cast has less room than before
pub record Steps (outs : List Wire) (old new : Part) (part : S.Part) (coming : List RoomyCast) : Type 0 where
  pub kind : kind_of new ≡ kind_of old
  pub is : part_of new ≡ part
  pub casts : coming_of new ≡ coming
  pub whole : is_whole outs old ≡ true → is_whole outs new ≡ true
