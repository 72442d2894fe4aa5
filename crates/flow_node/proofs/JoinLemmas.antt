-- A join's part: what waits at its ports, what it offers, and what its steps leave.
use Rattle.std.proofs.Common.{◌≡◌, ℕ, zero, suc, ◌<◌, ◌≤◌, Bool, true, false, not, ◌&&◌, cond, eqb, Option, Some, None, List, [], ◌∷◌, ◌++◌, length, map, filter, take, drop, refl, sym, ap, ◌∙◌, arith, eq-eqb}
use Rattle.std.specs.Prelude.{slice_get, is_some, is_none, IfSome}
use Rattle.std.specs.Option.{option_map, unwrap_or}
use Rattle.std.specs.List.{find}
use Rattle.std.proofs.lemmas.List.{length-map}
use Rattle.std.proofs.lemmas.Bool.{eqb-true, le-leb}
use Rattle.flow_item.specs.declared.item.Item.{Item}
use Rattle.flow_item.specs.declared.item.Id.{Id}
use Rattle.flow_item.specs.declared.val.Val.{Val}
use Rattle.flow_item.specs.Values.{list_of}
use Rattle.std.proofs.lemmas.Option.{same_Some}
use Rattle.flow_item.specs.Rooms.{Roomy}
use Rattle.flow_item.specs.declared.event.Ended.TheVariants as Z
use Rattle.flow_item.specs.Lists.{has, is_empty, first, change_at}
use Rattle.flow_item.proofs.Tests.{and_left, and_right, both_true}
use Rattle.flow_item.proofs.Places.{slice_get-below}
use Rattle.flow_shape.specs.declared.Wire.{Wire}
use Rattle.flow_shape.specs.Kinds.{is_keeping, is_discarding}
use Rattle.flow_shape.specs.Places.{Place, edge_number}
use Rattle.flow_machine.specs.State.{NodeState, option_list, one_if, offer, new_cast, item_of}
use Rattle.flow_machine.specs.Offers.{candidates, cast_candidates, offer_end, slot_end, end_of_offer, is_met, when, cons_all, fronts, with_tag, least, common_tags, matching_parts, tag_of, tuple_of}
use Rattle.flow_machine.specs.WishEvents.{where_some}
use Rattle.flow_machine.specs.Ledger.{flattened}
use Rattle.flow_machine.specs.Wishes.{shut_wish}
use Rattle.flow_machine.specs.declared.Wish.TheVariants as W
use Rattle.flow_cast.specs.Casts.{RoomyCast}
use Rattle.flow_node.specs.Parts.{cast_in, edges_over, is_roomy}
use Rattle.flow_node.specs.Joins.{JoinView, ports_of, rule_of, parts_of, ready_parts, tuple_in, join_kind, join_part_of, is_slot_roomy, has_tuple_room, room_edges, tuple_cast, KeepsRoom}
use Rattle.flow_node.specs.Readied.{suits}
use Rattle.flow_node.specs.Kept.{place_with, state_with}
use Rattle.flow_node.specs.declared.base.Base.{Base}
use Rattle.flow_node.specs.declared.join.Inputs.{Inputs}
use Rattle.flow_node.specs.declared.join.Inputs.TheVariants as J
use Rattle.flow_node.specs.declared.join.TupleRoom.{TupleRoom}
use Rattle.flow_node.proofs.CastLemmas.{unmet-room}
use Rattle.flow_node.proofs.FunctionLemmas.{may, offered}
use Rattle.flow_node.proofs.ListLemmas.{drop-at, find-first, find-second}

-- ---- tuples

front-count : (iss : List (List Item)) → is_some (fronts iss) ≡ true → length (unwrap_or (fronts iss) []) ≡ length iss
front-count [] h = refl
front-count ([] ∷ iss) h = cc
front-count ((i ∷ is) ∷ iss) h = by_later (fronts iss) (front-count iss) h
  where
    by_later : (o : Option (List Item)) → (is_some o ≡ true → length (unwrap_or o []) ≡ length iss) → is_some (cons_all (Some i) o) ≡ true → length (unwrap_or (cons_all (Some i) o) []) ≡ suc (length iss)
    by_later None later h = cc
    by_later (Some js) later h = ap suc (later refl)

-- a tuple has a part of each port
pub parts-count : (inputs : Inputs) → is_some (parts_of inputs) ≡ true → length (ready_parts inputs) ≡ length (ports_of inputs)
parts-count (J.Queue q) h = front-count q.ports h
parts-count (J.Key k) h = by_tag (least (common_tags k.ports)) h
  where
    by_tag : (o : Option ℕ) → is_some (matching_parts k.ports o) ≡ true → length (unwrap_or (matching_parts k.ports o) []) ≡ length k.ports
    by_tag None h = cc
    by_tag (Some tag) h = front-count (map (with_tag tag) k.ports) h ∙ length-map k.ports (with_tag tag)

-- the part at a port of a tuple that is there
pub part-there : (o : Option (List Item)) (k : ℕ) (r : Option Item) → is_some o ≡ true → r ≡ where_some o (λ parts. slice_get parts k) → r ≡ slice_get (unwrap_or o []) k
part-there None k r h e = cc
part-there (Some parts) k r h e = e

take-none : {X : Type 0} (xs : List X) → take 0 xs ≡ []
take-none [] = refl
take-none (x ∷ xs) = refl

pub take-more : {X : Type 0} (xs : List X) (k : ℕ) (x : X) → slice_get xs k ≡ Some x → take (suc k) xs ≡ take k xs ++ x ∷ []
take-more [] k x h = cc
take-more (y ∷ ys) zero x h =
    let same : y ≡ x = cc in
    ap (λ zs. y ∷ zs) (take-none ys) ∙ ap (λ z. z ∷ []) same
take-more (y ∷ ys) (suc k) x h = ap (λ zs. y ∷ zs) (take-more ys k x h)

pub take-past : {X : Type 0} (xs : List X) (k : ℕ) → length xs ≤ k → take k xs ≡ xs
take-past [] zero h = refl
take-past [] (suc k) h = refl
take-past (x ∷ xs) zero h = absurd (omega (arith, h))
take-past (x ∷ xs) (suc k) h = ap (λ ys. x ∷ ys) (take-past xs k (omega (arith, h)))

-- one port has no part where none is missing
pub part-missing : (xs : List Item) (k : ℕ) → k < length xs → None ≡ slice_get xs k → ⊥
part-missing [] k short h = omega (arith, short)
part-missing (x ∷ xs) zero short h = cc
part-missing (x ∷ xs) (suc k) short h = part-missing xs k (omega (arith, short)) h

-- ---- room at the ports

pub key-ready : (port tag : ℕ) (r : Option (ℕ × ℕ)) → 1 ≤ one_if (is_some r) → suits r port tag ≡ true → r ≡ Some (port, tag)
key-ready port tag None some h = absurd (omega (arith, some))
key-ready port tag (Some r) some h =
    let first : r.0 ≡ port = eqb-true r.0 port (and_left (eqb r.0 port) (eqb r.1 tag) h) in
    let second : r.1 ≡ tag = eqb-true r.1 tag (and_right (eqb r.0 port) (eqb r.1 tag) h) in
    λ i. Some (first i, second i)

pub key-suits : (port tag : ℕ) (r : Option (ℕ × ℕ)) → r ≡ Some (port, tag) → suits r port tag ≡ true
key-suits port tag r h = rw h (both_true (eq-eqb port port refl) (eq-eqb tag tag refl))

pub key-spare : (port tag : ℕ) (r : Option (ℕ × ℕ)) → r ≡ Some (port, tag) → 1 ≤ one_if (is_some r)
key-spare port tag r h = rw h (omega arith)

-- ---- a tuple that can be formed

formable : (n : Bool) (o : Option (List Item)) → is_some (cond n o None) ≡ true → cond n o None ≡ Some (unwrap_or o [])
formable true None h = cc
formable true (Some parts) h = refl
formable false o h = cc

formable-parts : (n : Bool) (o : Option (List Item)) → is_some (cond n o None) ≡ true → is_some o ≡ true
formable-parts true o h = h
formable-parts false o h = cc

pub tuple-is : (j : JoinView) → is_some (tuple_in j) ≡ true → tuple_in j ≡ Some (ready_parts j.inputs)
tuple-is j h = formable (is_none (option_map cast_in j.slot)) (parts_of j.inputs) h

pub tuple-ready : (j : JoinView) → is_some (tuple_in j) ≡ true → is_some (parts_of j.inputs) ≡ true
tuple-ready j h = formable-parts (is_none (option_map cast_in j.slot)) (parts_of j.inputs) h

-- ---- items that wait

pub past-ports : {X : Type 0} (f : X → X) (k : ℕ) (xs : List X) → length xs ≤ k → change_at f k xs ≡ xs
past-ports f k [] h = refl
past-ports f zero (x ∷ xs) h = absurd (omega (arith, h))
past-ports f (suc k) (x ∷ xs) h = ap (λ ys. x ∷ ys) (past-ports f k xs (omega (arith, h)))

module _ (p : Item → Bool) (iss : List (List Item)) where
  pub waits-here : (k : ℕ) (i : Item) → Some i ≡ where_some (slice_get iss k) (find p) → Some i ≡ find p (flattened (drop k iss))
  waits-here k i h = by_port (slice_get iss k) refl h
    where
      by_port : (o : Option (List Item)) → slice_get iss k ≡ o → Some i ≡ where_some o (find p) → Some i ≡ find p (flattened (drop k iss))
      by_port None at h = cc
      by_port (Some is) at h = rw (drop-at iss k is at) (find-first p is (flattened (drop (suc k) iss)) i h)

  pub waits-later : (k : ℕ) → k < length iss → None ≡ where_some (slice_get iss k) (find p) → find p (flattened (drop (suc k) iss)) ≡ find p (flattened (drop k iss))
  waits-later k short h =
      let at = slice_get-below iss k short in
      let none : None ≡ where_some (Some at.0) (find p) = rw (at.1) at h in
      rw (drop-at iss k at.0 at.1) (find-second p at.0 (flattened (drop (suc k) iss)) none)

-- ---- the tuple on offer

module _ (b : Base) (j : JoinView) where
  abbrev pub place : Place
  place = place_with b (join_kind j)

  abbrev pub state : NodeState
  state = state_with b (join_part_of j)

  pub join-candidates : (x : ℕ) → candidates place state x ≡ offered b.outs.items x j.slot
  join-candidates x = by_slot j.slot
    where
      by_slot : (o : Option RoomyCast) → cast_candidates place x (first (option_list (option_map cast_in o))) ≡ offered b.outs.items x o
      by_slot None = refl
      by_slot (Some c) = refl

  pub slot-offered : (x : ℕ) (c : RoomyCast) → j.slot ≡ Some c → may b.outs.items x c ≡ true → Some c.cast.item ≡ first (candidates place state x)
  slot-offered x c at m = let is : candidates place state x ≡ when (may b.outs.items x c) (c.cast.item ∷ []) = join-candidates x ∙ ap (offered b.outs.items x) at in rw (is, m)

  pub slot-kept : (x : ℕ) (c : RoomyCast) → j.slot ≡ Some c → may b.outs.items x c ≡ false → None ≡ first (candidates place state x)
  slot-kept x c at m = let is : candidates place state x ≡ when (may b.outs.items x c) (c.cast.item ∷ []) = join-candidates x ∙ ap (offered b.outs.items x) at in rw (is, m)

  pub slot-empty : (x : ℕ) → j.slot ≡ None → None ≡ first (candidates place state x)
  slot-empty x at = sym (ap first (join-candidates x ∙ ap (offered b.outs.items x) at))

  -- at most one item may go
  pub one-offered : (p : Item → Bool) (x : ℕ) → find p (candidates place state x) ≡ where_some (first (candidates place state x)) (λ i. cond (p i) (Some i) None)
  one-offered p x = ap (find p) (join-candidates x) ∙ by_slot j.slot ∙ sym (ap (λ is. where_some (first is) (λ i. cond (p i) (Some i) None)) (join-candidates x))
    where
      by_may : (m : Bool) (i : Item) → find p (when m (i ∷ [])) ≡ where_some (first (when m (i ∷ []))) (λ i. cond (p i) (Some i) None)
      by_may true i = refl
      by_may false i = refl

      by_slot : (o : Option RoomyCast) → find p (offered b.outs.items x o) ≡ where_some (first (offered b.outs.items x o)) (λ i. cond (p i) (Some i) None)
      by_slot None = refl
      by_slot (Some c) = by_may (may b.outs.items x c) c.cast.item

  pub join-end : offer_end place state ≡ end_of_offer (slot_end b.push.items) (option_map cast_in j.slot)
  join-end = refl

  pub slot-ends : (c : RoomyCast) → j.slot ≡ Some c → (is_met b.push.items c.cast && not (eqb c.cast.got 0)) ≡ true → Some (W.Shut c.cast.item.id.no Z.Out) ≡ shut_wish (offer (join_part_of j)) (offer_end place state)
  slot-ends c at h = rw (at, h)

  pub slot-stays : (c : RoomyCast) → j.slot ≡ Some c → (is_met b.push.items c.cast && not (eqb c.cast.got 0)) ≡ false → None ≡ shut_wish (offer (join_part_of j)) (offer_end place state)
  slot-stays c at h = rw (at, h)

  pub nothing-ends : j.slot ≡ None → None ≡ shut_wish (offer (join_part_of j)) (offer_end place state)
  nothing-ends at = rw at

-- ---- what the tuple on offer may meet

met : (b : Bool) (i : Item) → is_empty (when b (i ∷ [])) ≡ false → b ≡ true
met true i h = refl
met false i h = cc

not_true : (b : Bool) → not b ≡ true → b ≡ false
not_true true h = cc
not_true false h = refl

-- the cast in the slot may meet the edge
pub record OpenSlot (outs : List Wire) (c : RoomyCast) (x : ℕ) : Type 0 where
  pub over : has (edges_over outs c.cast.port) x ≡ true
  pub away : has c.cast.met x ≡ false

pub open-slot : (outs : List Wire) (c : RoomyCast) (x : ℕ) → is_empty (offered outs x (Some c)) ≡ false → OpenSlot outs c x
open-slot outs c x h =
    let m : may outs x c ≡ true = met (may outs x c) c.cast.item h in
    record { over = and_left (has (edges_over outs c.cast.port) x) (not (has c.cast.met x)) m; away = not_true _ (and_right (has (edges_over outs c.cast.port) x) (not (has c.cast.met x)) m) }

-- the tuple on offer has room for an edge that it may go over
pub slot-unmet : (b : Base) (j : JoinView) (x : ℕ) (c : RoomyCast) → j.slot ≡ Some c → is_slot_roomy b.outs.items j.slot ≡ true → is_empty (candidates (place b j) (state b j) x) ≡ false → (has c.cast.met x ≡ false) × (length c.cast.met < c.edges)
slot-unmet b j x c at roomy open_for =
    let open_slot : is_empty (offered b.outs.items x (Some c)) ≡ false = ap (λ o. is_empty (offered b.outs.items x o)) (sym at) ∙ ap is_empty (sym (join-candidates b j x)) ∙ open_for in
    let o = open-slot b.outs.items c x open_slot in
    let room : is_roomy b.outs.items c ≡ true = ap (is_slot_roomy b.outs.items) (sym at) ∙ roomy in
    (o.away, unmet-room b.outs.items c x room o.over o.away)

-- ---- the room of the next tuple

pub keeps-ports : (inputs inputs' : Inputs) (room : Option TupleRoom) (ids : Roomy Id) → length (ports_of inputs') ≡ length (ports_of inputs) → KeepsRoom inputs room ids → KeepsRoom inputs' room ids
keeps-ports inputs inputs' room ids same kept = record { none = kept.none; made = by_room room kept.made }
  where
    by_room : (o : Option TupleRoom) → IfSome o (λ r. (r.vals.items ≡ []) × (length (ports_of inputs) ≤ r.vals.spare) × (length (ports_of inputs) ≤ ids.spare)) → IfSome o (λ r. (r.vals.items ≡ []) × (length (ports_of inputs') ≤ r.vals.spare) × (length (ports_of inputs') ≤ ids.spare))
    by_room None m = m
    by_room (Some r) m = (m.0, rw same m.1, rw same m.2)

pub some-made : (inputs : Inputs) (room : Option TupleRoom) (ids : Roomy Id) (r : TupleRoom) → room ≡ Some r → KeepsRoom inputs room ids → r.vals.items ≡ []
some-made inputs room ids r at kept = by_room room at kept.made
  where
    by_room : (o : Option TupleRoom) → o ≡ Some r → IfSome o (λ r. (r.vals.items ≡ []) × (length (ports_of inputs) ≤ r.vals.spare) × (length (ports_of inputs) ≤ ids.spare)) → r.vals.items ≡ []
    by_room None at made = cc
    by_room (Some q) at made = sym (ap (λ (t : TupleRoom). t.vals.items) (same_Some q r at)) ∙ made.0

-- the tuple of the parts, in the room that was made for it
pub slot-made : (node number tag : ℕ) (parts : List Item) (vals values : List Val) (val : Val) (edges : ℕ) (room : Option ℕ) (c : RoomyCast)
    → c ≡ record { cast = new_cast (item_of node number tag val) 0; edges = edges } → val ≡ list_of values → values ≡ vals ++ map (λ (i : Item). i.val) parts → vals ≡ [] → tag ≡ tag_of parts → room ≡ Some edges
    → Some c ≡ option_map (tuple_cast node number parts) room
slot-made node number tag parts vals values val edges room c cast value all none tagged at =
    let parts_values : values ≡ map (λ (i : Item). i.val) parts = rw none at all in
    let tuple_value : val ≡ list_of (map (λ (i : Item). i.val) parts) = value ∙ ap list_of parts_values in
    let item : item_of node number tag val ≡ tuple_of node number parts = λ i. item_of node number (tagged i) (tuple_value i) in
    let made : c ≡ tuple_cast node number parts edges = cast ∙ ap (λ (t : Item). record { cast = new_cast t 0; edges = edges }) item in
    ap Some made ∙ sym (ap (option_map (tuple_cast node number parts)) at)

-- ---- the kind of a join

pub join-keeps : (inputs : Inputs) → is_keeping (rule_of inputs) ≡ false
join-keeps (J.Queue q) = refl
join-keeps (J.Key k) = refl

pub join-switches : (inputs : Inputs) → is_discarding (rule_of inputs) ≡ false
join-switches (J.Queue q) = refl
join-switches (J.Key k) = refl

-- ---- the room of the next tuple

-- room that was made for the edges out of the port
pub has-room : (outs : List Wire) (o : Option TupleRoom) (r : TupleRoom) (n : ℕ) → o ≡ Some r → r.cast ≡ n → n ≡ length (filter (λ (w : Wire). eqb w.out 0) outs) → has_tuple_room outs (option_map room_edges o) ≡ true
has-room outs o r n at room count =
    let long = length-map (filter (λ (w : Wire). eqb w.out 0) outs) edge_number in
    rw at (le-leb (length (edges_over outs 0)) r.cast (omega (arith, long, room, count)))
