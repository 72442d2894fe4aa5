-- What the steps of a join leave of its node.
use Rattle.std.proofs.Common.{◌≡◌, ℕ, true, false, ◌&&◌, Option, Some, None, List, [], ◌∷◌, ◌++◌, refl, sym, ap, ◌∙◌}
use Rattle.std.specs.Prelude.{is_some}
use Rattle.std.specs.Option.{option_map}
use Rattle.flow_item.specs.declared.item.Item.{Item}
use Rattle.flow_item.specs.declared.event.Ended.{Ended}
use Rattle.flow_item.specs.Lists.{is_empty, change_at}
use Rattle.flow_item.proofs.Tests.{and_left, and_right, both_true}
use Rattle.flow_shape.specs.declared.Wire.{Wire}
use Rattle.flow_machine.specs.State.{Cast, join_part, option_list, new_cast, cast_give, cast_refuse}
use Rattle.flow_machine.specs.Offers.{candidates, next_tuple, tag_of, tuple_of}
use Rattle.flow_machine.specs.After.{part_after_arrival, part_after_give, part_after_refuse, part_after_form, part_after_shut, ports_after_form}
use Rattle.flow_machine.specs.OpenParts.{holds_in}
use Rattle.flow_cast.specs.Casts.{RoomyCast}
use Rattle.flow_node.specs.Parts.{cast_in, given_over}
use Rattle.flow_node.specs.Joins.{JoinView, ports_of, rule_of, ready_parts, tuple_in, join_kind, join_part_of, tuple_cast, is_slot_roomy, has_tuple_room, is_join_whole}
use Rattle.flow_node.specs.Kept.{Steps}
use Rattle.flow_node.specs.declared.base.Base.{Base}
use Rattle.flow_node.specs.declared.part.Part.TheVariants as P
use Rattle.flow_node.proofs.CastLemmas.{roomy-given}
use Rattle.flow_node.proofs.FunctionLemmas.{offered, roomy-free}
use Rattle.flow_node.proofs.JoinLemmas.{place, state, join-candidates, open-slot, tuple-is}

-- ---- the cast in the slot

slot-given : (outs : List Wire) (x : ℕ) (o : Option RoomyCast) → is_slot_roomy outs o ≡ true → is_empty (offered outs x o) ≡ false → is_slot_roomy outs (option_map (given_over x) o) ≡ true
slot-given outs x None h open_for = refl
slot-given outs x (Some c) h open_for = let o = open-slot outs c x open_for in roomy-given outs c x h o.over o.away

slot-map : (f : RoomyCast → RoomyCast) (g : Cast → Cast) → ((c : RoomyCast) → cast_in (f c) ≡ g (cast_in c)) → (o : Option RoomyCast) → option_map cast_in (option_map f o) ≡ option_map g (option_map cast_in o)
slot-map f g same None = refl
slot-map f g same (Some c) = ap Some (same c)

refused-same : (x : ℕ) (o : Option Cast) → o ≡ option_map (cast_refuse true x) o
refused-same x None = refl
refused-same x (Some c) = refl

-- nothing is held
pub slot-free : (outs : List Wire) (j : JoinView) → is_join_whole outs j ≡ true → holds_in (option_list (option_map cast_in j.slot)) ≡ 0
slot-free outs j h = by_slot j.slot (and_left (is_slot_roomy outs j.slot) (has_tuple_room outs j.room) h)
  where
    by_slot : (o : Option RoomyCast) → is_slot_roomy outs o ≡ true → holds_in (option_list (option_map cast_in o)) ≡ 0
    by_slot None h = refl
    by_slot (Some c) h = roomy-free outs (c ∷ []) (both_true h refl)

-- ---- a tuple that can be formed

some-room : (o : Option ℕ) → is_some o ≡ true → (n : ℕ) × (o ≡ Some n)
some-room None h = cc
some-room (Some n) h = (n, refl)

-- ---- steps

module _ (j j' : JoinView) where
  pub join-reserved : (outs : List Wire) → ports_of j'.inputs ≡ ports_of j.inputs → rule_of j'.inputs ≡ rule_of j.inputs → j' ≡ record j { inputs = j'.inputs } → Steps outs (P.Join j) (P.Join j') (join_part_of j) []
  join-reserved outs ports rule same = record {
    kind = rule;
    is = λ i. join_part record { ports = ports i; slot = option_map cast_in (same i).slot };
    casts = refl;
    whole = λ w. ap (λ (v : JoinView). is_slot_roomy outs v.slot && has_tuple_room outs v.room) same ∙ w;
  }

  pub join-shut : (outs : List Wire) (ended : Ended) → j' ≡ record j { slot = None } → Steps outs (P.Join j) (P.Join j') (part_after_shut (join_part_of j) ended) []
  join-shut outs ended same = record {
    kind = ap join_kind same;
    is = ap join_part_of same;
    casts = refl;
    whole = λ w. ap (λ (v : JoinView). is_slot_roomy outs v.slot && has_tuple_room outs v.room) same ∙ and_right (is_slot_roomy outs j.slot) (has_tuple_room outs j.room) w;
  }

module _ (b : Base) (j j' : JoinView) where
  pub join-arrived : (port : ℕ) (item : Item) → ports_of j'.inputs ≡ change_at (λ q. q ++ item ∷ []) port (ports_of j.inputs) → rule_of j'.inputs ≡ rule_of j.inputs → j' ≡ record j { inputs = j'.inputs }
      → Steps b.outs.items (P.Join j) (P.Join j') (part_after_arrival (place b j) b.push.items (join_part_of j) port item) []
  join-arrived port item ports rule same = record {
    kind = rule;
    is = λ i. join_part record { ports = ports i; slot = option_map cast_in (same i).slot };
    casts = refl;
    whole = λ w. ap (λ (v : JoinView). is_slot_roomy b.outs.items v.slot && has_tuple_room b.outs.items v.room) same ∙ w;
  }

  pub join-readied : j' ≡ record j { room = j'.room } → has_tuple_room b.outs.items j'.room ≡ true → Steps b.outs.items (P.Join j) (P.Join j') (join_part_of j) []
  join-readied same room = record {
    kind = ap join_kind same;
    is = ap join_part_of same;
    casts = refl;
    whole = λ w. both_true (ap (λ (v : JoinView). is_slot_roomy b.outs.items v.slot) same ∙ and_left (is_slot_roomy b.outs.items j.slot) (has_tuple_room b.outs.items j.room) w) room;
  }

  pub join-given : (x number : ℕ) → is_join_whole b.outs.items j ≡ true → is_empty (candidates (place b j) (state b j) x) ≡ false → j' ≡ record j { slot = option_map (given_over x) j.slot }
      → Steps b.outs.items (P.Join j) (P.Join j') (part_after_give (join_kind j) (join_part_of j) x number) []
  join-given x number whole open_for same =
      let roomy = and_left (is_slot_roomy b.outs.items j.slot) (has_tuple_room b.outs.items j.room) whole in
      let open_slot : is_empty (offered b.outs.items x j.slot) ≡ false = ap is_empty (sym (join-candidates b j x)) ∙ open_for in
      record {
        kind = ap join_kind same;
        is = ap join_part_of same ∙ ap (λ o. join_part record { ports = ports_of j.inputs; slot = o }) (slot-map (given_over x) (cast_give x) (λ c. refl) j.slot);
        casts = refl;
        whole = λ w. ap (λ (v : JoinView). is_slot_roomy b.outs.items v.slot && has_tuple_room b.outs.items v.room) same ∙ both_true (slot-given b.outs.items x j.slot roomy open_slot) (and_right (is_slot_roomy b.outs.items j.slot) (has_tuple_room b.outs.items j.room) whole);
      }

  pub join-formed : (number : ℕ) → is_some (tuple_in j) ≡ true → is_some j.room ≡ true → ports_of j'.inputs ≡ ports_after_form (rule_of j.inputs) (tag_of (ready_parts j.inputs)) (ports_of j.inputs) → rule_of j'.inputs ≡ rule_of j.inputs
      → j'.slot ≡ option_map (tuple_cast b.node number (ready_parts j.inputs)) j.room → j'.room ≡ None
      → Steps b.outs.items (P.Join j) (P.Join j') (part_after_form (place b j) number (join_part_of j) (next_tuple (place b j) (join_part_of j))) []
  join-formed number ready some ports rule slot none =
      let outs = b.outs.items in
      let parts = ready_parts j.inputs in
      let room = some-room j.room some in
      let formed : j'.slot ≡ Some (tuple_cast b.node number parts room.0) = slot ∙ ap (option_map (tuple_cast b.node number parts)) room.1 in
      let cast : option_map cast_in j'.slot ≡ Some (new_cast (tuple_of b.node number parts) 0) = ap (option_map cast_in) formed in
      let after : part_after_form (place b j) number (join_part_of j) (next_tuple (place b j) (join_part_of j)) ≡ join_part record { ports = ports_after_form (join_kind j) (tag_of parts) (ports_of j.inputs); slot = Some (new_cast (tuple_of b.node number parts) 0) } =
      ap (part_after_form (place b j) number (join_part_of j)) (tuple-is j ready) in
      record {
        kind = rule;
        is = (λ i. join_part record { ports = ports i; slot = cast i }) ∙ sym after;
        casts = refl;
        whole = λ w.
            let fits : has_tuple_room outs (Some room.0) ≡ true = ap (has_tuple_room outs) (sym room.1) ∙ and_right (is_slot_roomy outs j.slot) (has_tuple_room outs j.room) w in
            both_true (ap (is_slot_roomy outs) formed ∙ both_true (both_true refl fits) refl) (ap (has_tuple_room outs) none);
      }

-- a refusal leaves a join as it is
pub join-refused : (outs : List Wire) (j : JoinView) (x : ℕ) → Steps outs (P.Join j) (P.Join j) (part_after_refuse true (join_part_of j) x) []
join-refused outs j x = record {
  kind = refl;
  is = ap (λ o. join_part record { ports = ports_of j.inputs; slot = o }) (refused-same x (option_map cast_in j.slot));
  casts = refl;
  whole = λ w. w;
}
