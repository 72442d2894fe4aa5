-- What the steps of a part leave of its node.
use Rattle.std.proofs.Common.{◌≡◌, ℕ, suc, ◌+◌, ◌≤◌, Bool, true, false, not, ◌&&◌, ◌||◌, cond, eqb, ltb, Option, Some, None, Err, List, [], ◌∷◌, length, map, refl, sym, ap, ◌∙◌, arith, eq-eqb, ◌<◌}
use Rattle.flow_node.proofs.JoinLemmas.{join-keeps}
use Rattle.flow_item.specs.declared.item.Id.{Id}
use Rattle.std.specs.Prelude.{is_none, is_some, IsSome}
use Rattle.std.specs.Option.{option_map, option_or}
use Rattle.std.specs.List.{list_all, list_any, find}
use Rattle.std.proofs.lemmas.Bool.{eqb-true}
use Rattle.std.proofs.lemmas.List.{length-map}
use Rattle.flow_item.specs.declared.item.Item.{Item}
use Rattle.flow_item.specs.declared.item.Msg.{Msg}
use Rattle.flow_item.specs.declared.event.Event.{Event}
use Rattle.flow_item.specs.declared.event.Event.TheVariants as E
use Rattle.flow_item.specs.declared.event.Link.{Link}
use Rattle.flow_item.specs.declared.val.Val.{Val}
use Rattle.flow_item.specs.declared.event.Land.{Land}
use Rattle.flow_item.specs.declared.event.Land.TheVariants as L
use Rattle.flow_item.specs.declared.event.Cause.TheVariants as C
use Rattle.flow_item.specs.declared.event.PutAnswer.TheVariants.{Accepted}
use Rattle.flow_item.specs.declared.event.Ended.{Ended}
use Rattle.flow_item.specs.declared.event.Party.{Party}
use Rattle.flow_item.specs.declared.event.Party.TheVariants.{Node}
use Rattle.flow_item.specs.declared.event.Parties.{Parties}
use Rattle.flow_item.specs.Events.{parties_of, both, ends}
use Rattle.flow_item.specs.Legal.{takes_part, is_second}
use Rattle.flow_item.specs.Values.{same_item}
use Rattle.flow_item.specs.Lists.{has, is_empty, first, without}
use Rattle.flow_item.proofs.Tests.{and_left, and_right}
use Rattle.flow_shape.specs.declared.Kind.TheVariants as K
use Rattle.flow_shape.specs.declared.Wire.{Wire}
use Rattle.flow_shape.specs.Kinds.{is_keeping, is_discarding, is_for_callers}
use Rattle.flow_shape.specs.Wiring.{is_some_and}
use Rattle.flow_shape.specs.Places.{Place, edges_out, over, has_ends, is_wired, wire_in, from_keeps, edge_switches}
use Rattle.flow_shape.proofs.Valid.{passes-some}
use Rattle.flow_machine.specs.State as S
use Rattle.flow_machine.specs.State.{PlacedNode, NodeState, casts_of}
use Rattle.flow_machine.specs.Offers.{candidates, Room, lands, bars, by_hold, room, room_under, has_room, offer_end, end_of_offer, outbox_end, next_tuple, slot_end}
use Rattle.flow_machine.specs.Enabled.{allows_at, at_rest, is_numbered, same_bool, same_land, lands_as, is_answer, part_takes_holds, may_end, are_parts}
use Rattle.flow_machine.specs.Wishes.{offer_wish, shut_wish}
use Rattle.flow_machine.specs.WishEvents.{given_event, offer_event, ask_event, tuple_event, form_event, id_of}
use Rattle.flow_machine.specs.declared.Wish.{Wish}
use Rattle.flow_machine.specs.declared.Wish.TheVariants as W
use Rattle.flow_machine.specs.After.{part_after_end, turn_push, turn_pull, turn_if, to_push, to_pull, part_after_form, link_of}
use Rattle.flow_cast.specs.Casts.{RoomyCast}
use Rattle.flow_node.specs.Built.{is_built, is_wire_of, is_reserving, is_plain}
use Rattle.flow_node.specs.Readied.{stepped, given_from, refused_at, body_ended, landed, runs_bodies, is_quiet, tuple_formed, is_from}
use Rattle.flow_node.specs.NodeViews.{running_items, room_seen}
use Rattle.flow_node.specs.Kept.{kind_of, part_of, coming_of, place_with, state_with, place_of, state_of, placed, is_counted, IsKept, Steps}
use Rattle.flow_node.specs.Parts.{cast_in}
use Rattle.flow_node.specs.declared.base.Base.{Base}
use Rattle.flow_node.specs.declared.part.Part.{Part}
use Rattle.flow_node.specs.declared.part.Part.TheVariants as P
use Rattle.flow_node.specs.declared.store.StorePart.TheVariants as T
use Rattle.flow_node.specs.declared.bar.Bar.{Bar}
use Rattle.flow_node.specs.declared.bar.Bar.TheVariants as B
use Rattle.flow_node.proofs.HoldLemmas.{takes-none}
use Rattle.flow_node.proofs.StoreLemmas.{counted-more}

-- ---- parts of any kind

pub part-plain : (p : Part) → is_plain (part_of p) ≡ true
part-plain (P.Store s) = refl
part-plain (P.Function f) = refl
part-plain (P.Join j) = refl

pub keeps-none : (p : Part) → is_keeping (kind_of p) ≡ false
keeps-none (P.Store (T.Queue q)) = refl
keeps-none (P.Store (T.Buffer q)) = refl
keeps-none (P.Store (T.Priority r)) = refl
keeps-none (P.Store (T.Sequencer t)) = refl
keeps-none (P.Function f) = refl
keeps-none (P.Join j) = join-keeps j.inputs

-- a body that may end runs
pub ends-running : (p : Part) (i : ℕ) (outs : List Msg) → may_end (kind_of p) (part_of p) i outs ≡ true → list_any (is_numbered i) (running_items (part_of p)) ≡ true
ends-running (P.Store s) i outs h = cc
ends-running (P.Join j) i outs h = cc
ends-running (P.Function f) i outs h = and_left (list_any (is_numbered i) f.work.running) true h

pub any-open : {X : Type 0} (p : X → Bool) (xs : List X) → list_any p xs ≡ true → is_empty xs ≡ false
any-open p [] h = cc
any-open p (x ∷ xs) h = refl

length-casts : (n number : ℕ) (outs : List Msg) → length (casts_of n number outs) ≡ length outs
length-casts n number [] = refl
length-casts n number (m ∷ ms) = ap suc (length-casts n (suc number) ms)

clash : (b : Bool) → b ≡ true → b ≡ false → ⊥
clash true h g = cc
clash false h g = cc

-- ---- a step

pub placed-is : (b : Base) (p p' : Part) {outs : List Wire} {part : S.Part} {coming : List RoomyCast} → Steps outs p p' part coming → placed b p' ≡ record { place = place_with b (kind_of p); state = state_with b part }
placed-is b p p' s = λ i. record { place = place_with b (s.kind i); state = state_with b (s.is i) }

pub kept-step : (b b' : Base) (p p' : Part) {part : S.Part} {coming : List RoomyCast} → IsKept b p → Steps b.outs.items p p' part coming → b'.outs ≡ b.outs → is_counted b'.made part ≡ true → b'.made + length coming ≤ 18446744073709551615 → IsKept b' p'
kept-step b b' p p' kept s outs counted fits = record {
  built = rw (s.kind) kept.built;
  wires = rw (outs, s.kind) kept.wires;
  whole = rw outs (s.whole kept.whole);
  counted = rw (s.is) counted;
  numbers = rw (s.casts) fits;
}

-- where an item comes that is lost, its number is gone
pub kept-more : (b : Base) (p : Part) → IsKept b p → b.made + length (coming_of p) < 18446744073709551615 → IsKept (record b { made = b.made + 1; due = true }) p
kept-more b p kept more = record {
  built = kept.built;
  wires = kept.wires;
  whole = kept.whole;
  counted = counted-more (part_of p) b.made (b.made + 1) (omega arith) kept.counted;
  numbers = omega (arith, more);
}

-- ---- an out edge

same_false : (a b : Bool) → same_bool a b ≡ true → a ≡ b
same_false true b h = sym h
same_false false true h = cc
same_false false false h = refl

find-all : {X : Type 0} (p q : X → Bool) (xs : List X) (x : X) → list_all q xs ≡ true → find p xs ≡ Some x → q x ≡ true
find-all p q [] x h e = cc
find-all {X} p q (y ∷ ys) x h e = by_first (p y) e (find-all p q ys x (and_right _ _ h))
  where
    by_first : (b : Bool) → cond b (Some y) (find p ys) ≡ Some x → (find p ys ≡ Some x → q x ≡ true) → q x ≡ true
    by_first true e later =
        let same : y ≡ x = cc in
        let first : q y ≡ true = and_left (q y) (list_all q ys) h in
        rw same at first
    by_first false e later = later e

-- an edge out of a node has the facts of the node's kind
record Told (place : Place) (l : Link) : Type 0 where
  keeps : over place l from_keeps ≡ is_keeping place.kind
  turns : over place l edge_switches ≡ not (is_discarding place.kind)

told : (place : Place) (l : Link) → list_all (is_wire_of place.kind) place.outs ≡ true → eqb l.from place.node ≡ true → is_wired place l ≡ true → Told place l
told place l all here wired =
    let at_outs : is_some_and (has_ends l) (wire_in place.outs l.edge) ≡ true = rw here at wired in
    let w = passes-some (has_ends l) (wire_in place.outs l.edge) at_outs in
    let q : is_wire_of place.kind w.0 ≡ true = find-all (λ (w : Wire). eqb w.edge l.edge) (is_wire_of place.kind) place.outs w.0 all w.1 in
    let kept : w.0.from_keeps ≡ is_keeping place.kind = same_false _ _ (and_left (same_bool w.0.from_keeps (is_keeping place.kind)) (same_bool w.0.switches (not (is_discarding place.kind))) q) in
    let turned : w.0.switches ≡ not (is_discarding place.kind) = same_false _ _ (and_right (same_bool w.0.from_keeps (is_keeping place.kind)) (same_bool w.0.switches (not (is_discarding place.kind))) q) in
    record { keeps = rw (here, w.1) kept; turns = rw (here, w.1) turned }

-- where an edge joins two nodes, the other end isn't this node
pub other-end : (l : Link) (n : ℕ) → eqb l.from l.to ≡ false → l.from ≡ n → eqb l.to n ≡ false
other-end l n apart here = rw (← here) (by_back (eqb l.to l.from) refl)
  where
    by_back : (d : Bool) → eqb l.to l.from ≡ d → d ≡ false
    by_back true f = let same : l.to ≡ l.from = eqb-true _ _ f in let twice : eqb l.from l.to ≡ true = eq-eqb _ _ (sym same) in cc
    by_back false f = refl

-- the second of two nodes isn't where the edge begins
pub off_end : (l : Link) (a n : ℕ) → ends l ≡ both (Node a) (Node n) → eqb l.from n ≡ false
off_end l a n h = by_loop (eqb l.from l.to) refl (ap (λ (p : Parties). p.second) h)
  where
    by_loop : (b : Bool) → eqb l.from l.to ≡ b → ◌≡◌ {A = Option Party} (cond (eqb l.from l.to) None (Some (Node l.to))) (Some (Node n)) → eqb l.from n ≡ false
    by_loop true e second = let never : ◌≡◌ {A = Option Party} None (Some (Node n)) = rw e at second in cc
    by_loop false e second =
        let there : ◌≡◌ {A = Option Party} (Some (Node l.to)) (Some (Node n)) = rw e at second in
        let is : l.to ≡ n = cc in
        rw is at e

module _ {v : PlacedNode} (b : Base) (p : Part) (view : placed b p ≡ v) (kept : IsKept b p) where
  -- what an event over an out edge asks of the offers
  pub give-allowed : (l : Link) (i : Item) (number : ℕ) (land : Land) → eqb l.from b.node ≡ true → allows_at v.place v.state (E.Give l i number land) ≡ true → list_any (same_item i) (candidates v.place v.state l.edge) ≡ true
  give-allowed l i number land own allowed =
      let a : allows_at (place_of b p) (state_of b p) (E.Give l i number land) ≡ true = rw (← view) at allowed in
      rw (← view) (rw own at (and_right (is_wired (place_of b p) l) _ a))

  pub given-after : (l : Link) (i : Item) (number : ℕ) (land : Land) → eqb l.from l.to ≡ false → eqb l.from b.node ≡ true → allows_at v.place v.state (E.Give l i number land) ≡ true → given_from v l.edge i.id.no ≡ stepped v (E.Give l i number land)
  given-after l i number land apart own allowed =
      let a : allows_at (place_of b p) (state_of b p) (E.Give l i number land) ≡ true = rw (← view) at allowed in
      let away : eqb l.to b.node ≡ false = other-end l b.node apart (eqb-true _ _ own) in
      let t = told (place_of b p) l kept.wires own (and_left _ _ a) in
      let keeps : over (place_of b p) l from_keeps ≡ false = t.keeps ∙ keeps-none p in
      let same : b.made + 0 ≡ b.made = omega arith in
      rw (← view, keeps, own, away, same)

  pub refuse-allowed : (l : Link) (i : ℕ) → eqb l.from b.node ≡ true → allows_at v.place v.state (E.Refuse l i) ≡ true → is_empty (candidates v.place v.state l.edge) ≡ false
  refuse-allowed l i own allowed =
      let a : allows_at (place_of b p) (state_of b p) (E.Refuse l i) ≡ true = rw (← view) at allowed in
      rw (← view) (any-open (is_numbered i) (candidates (place_of b p) (state_of b p) l.edge) (and_right (has b.push.items l.edge) _ (rw own at (and_right (is_wired (place_of b p) l) _ a))))

  pub refused-after : (l : Link) (i : ℕ) → eqb l.from l.to ≡ false → eqb l.from b.node ≡ true → allows_at v.place v.state (E.Refuse l i) ≡ true → refused_at v l.edge ≡ stepped v (E.Refuse l i)
  refused-after l i apart own allowed =
      let a : allows_at (place_of b p) (state_of b p) (E.Refuse l i) ≡ true = rw (← view) at allowed in
      let away : eqb l.to b.node ≡ false = other-end l b.node apart (eqb-true _ _ own) in
      let t = told (place_of b p) l kept.wires own (and_left _ _ a) in
      let same : b.made + 0 ≡ b.made = omega arith in
      let pushed = turned (is_discarding (kind_of p)) l.edge b.push.items in
      rw (← view, t.turns, own, away, same, pushed)
    where
      turned : (d : Bool) (x : ℕ) (xs : List ℕ) → cond d xs (without x xs) ≡ turn_push (turn_if (not d) to_pull) x xs
      turned true x xs = refl
      turned false x xs = refl

  -- no event that the second of two nodes meets is of a hold
  pub met-there : (e : Event) (a : ℕ) → parties_of e ≡ both (Node a) (Node v.place.node) → allows_at v.place v.state e ≡ true → is_reserving e ≡ false
  met-there (E.Hold l i number) a h allowed =
      let off : eqb l.from b.node ≡ false = off_end l a b.node (rw (← view) at h) in
      let there : allows_at (place_of b p) (state_of b p) (E.Hold l i number) ≡ true = rw (← view) at allowed in
      let to = rw off at (and_right (is_wired (place_of b p) l) _ there) in
      absurd (clash _ to (takes-none (part_of p) (part-plain p) (place_of b p) (state_of b p) (E.Hold l i number) refl refl))
  met-there (E.Take l i) a h allowed =
      let off : eqb l.from b.node ≡ false = off_end l a b.node (rw (← view) at h) in
      let there : allows_at (place_of b p) (state_of b p) (E.Take l i) ≡ true = rw (← view) at allowed in
      let to = rw off at (and_right (is_wired (place_of b p) l) _ there) in
      absurd (clash _ to (takes-none (part_of p) (part-plain p) (place_of b p) (state_of b p) (E.Take l i) refl refl))
  met-there (E.Free l i) a h allowed =
      let off : eqb l.from b.node ≡ false = off_end l a b.node (rw (← view) at h) in
      let there : allows_at (place_of b p) (state_of b p) (E.Free l i) ≡ true = rw (← view) at allowed in
      let to = rw off at (and_right (is_wired (place_of b p) l) _ there) in
      absurd (clash _ to (takes-none (part_of p) (part-plain p) (place_of b p) (state_of b p) (E.Free l i) refl refl))
  met-there e a h allowed = refl

  -- a body ended with the messages of whose casts the node was prepared
  pub ended-after : (p' : Part) (i number count : ℕ) (outs : List Msg) → map cast_in (coming_of p) ≡ casts_of b.node number outs → count ≡ length (coming_of p)
      → kind_of p' ≡ kind_of p → part_of p' ≡ part_after_end (place_of b p) (part_of p) i number outs
      → placed (record b { made = b.made + count; due = true }) p' ≡ body_ended v i number outs
  ended-after p' i number count outs casts counted kind is =
      let long : count ≡ length outs = counted ∙ sym (length-map (coming_of p) cast_in) ∙ ap length casts ∙ length-casts b.node number outs in
      rw (← view, kind, is, long)

  -- a value came over an edge
  pub landed-after : (l : Link) (i : Item) (number : ℕ) (land : Land) → eqb l.from v.place.node ≡ false → takes_part (parties_of (E.Give l i number land)) (Node v.place.node) ≡ true → landed v l.port i.tag i.val land ≡ stepped v (E.Give l i number land)
  landed-after l i number land off party =
      let away : eqb l.from b.node ≡ false = rw (← view) at off in
      let here : eqb l.to b.node ≡ true = second (eqb l.from l.to) (rw away at (rw (← view) at party)) in
      let still = stays_empty (is_some_and from_keeps (wire_in b.ins.items l.edge)) l.edge in
      rw (← view, away, here, still)
    where
      second : (same : Bool) → is_second (cond same None (Some (Node l.to))) (Node b.node) ≡ true → eqb l.to b.node ≡ true
      second true h = cc
      second false h = h

      stays_empty : (keeps : Bool) (x : ℕ) → turn_pull (turn_if keeps to_push) x [] ≡ []
      stays_empty true x = refl
      stays_empty false x = refl

-- ---- offers

pub offer-lands : (b : Base) (p : Part) (l : Link) (i : Item) (land : Land) → lands land ≡ room (place_of b p) (state_of b p) l.port i.tag false → E.Give l i b.made land ≡ offer_event l i (placed b p)
offer-lands b (P.Store s) l i land h = ap (given_event l i b.made) h
offer-lands b (P.Function f) l i land h = ap (given_event l i b.made) h
offer-lands b (P.Join j) l i land h = ap (given_event l i b.made) h

pub offer-bars : (b : Base) (p : Part) (l : Link) (i : Item) (bar : Bar) → room_seen (Err bar) ≡ room (place_of b p) (state_of b p) l.port i.tag false → E.Refuse l i.id.no ≡ offer_event l i (placed b p)
offer-bars b (P.Store s) l i (B.Cause cause) h = ap (given_event l i b.made) h
offer-bars b (P.Store s) l i B.Held h = ap (given_event l i b.made) h
offer-bars b (P.Function f) l i (B.Cause cause) h = ap (given_event l i b.made) h
offer-bars b (P.Function f) l i B.Held h = ap (given_event l i b.made) h
offer-bars b (P.Join j) l i (B.Cause cause) h = ap (given_event l i b.made) h
offer-bars b (P.Join j) l i B.Held h = ap (given_event l i b.made) h

pub ask-offers : (b : Base) (p : Part) (l : Link) (i : Item) → offer_event l i (placed b p) ≡ ask_event l (Some i) (placed b p)
ask-offers b (P.Store s) l i = refl
ask-offers b (P.Function f) l i = refl
ask-offers b (P.Join j) l i = refl

-- ---- room

under-open : (m : ℕ) (capacity : Option ℕ) → by_hold ≡ room_under m capacity → ⊥
under-open m None h = cc
under-open m (Some n) h = by_test (ltb m n) h
  where
    by_test : (b : Bool) → by_hold ≡ cond b (lands L.Kept) (bars (C.Full n)) → ⊥
    by_test true h = cc
    by_test false h = cc

come-open : (b by_caller : Bool) → by_hold ≡ cond b (cond by_caller (bars C.Duplicate) (lands L.Lost)) (lands L.Kept) → ⊥
come-open true true h = cc
come-open true false h = cc
come-open false by_caller h = cc

-- no item comes to it by a hold
pub never-held : (b : Base) (p : Part) (port tag : ℕ) (by_caller : Bool) → by_hold ≡ room (place_of b p) (state_of b p) port tag by_caller → ⊥
never-held b (P.Store (T.Queue q)) port tag by_caller h = under-open (length q.items) q.capacity h
never-held b (P.Store (T.Buffer q)) port tag by_caller h = under-open (length q.items) q.capacity h
never-held b (P.Store (T.Priority r)) port tag by_caller h = under-open (length r.items) None h
never-held b (P.Store (T.Sequencer t)) port tag by_caller h = come-open (ltb tag t.state.next || list_any (λ (i : Item). eqb i.tag tag) t.state.items) by_caller h
never-held b (P.Join j) port tag by_caller h = cc
never-held b (P.Function f) port tag by_caller h = by_test f.work.cancelled h
  where
    by_test : (b : Bool) → by_hold ≡ cond b (lands L.Lost) (lands L.Kept) → ⊥
    by_test true h = cc
    by_test false h = cc

built-queue : (m : ℕ) (capacity : Option ℕ) → is_built (K.Queue capacity) ≡ true → has_room (room_under m capacity) ≡ true
built-queue m None h = refl
built-queue m (Some n) h = cc

built-buffer : (m : ℕ) (capacity : Option ℕ) → is_built (K.Buffer capacity) ≡ true → has_room (room_under m capacity) ≡ true
built-buffer m None h = refl
built-buffer m (Some n) h = cc

-- what comes over an edge is never refused
never-full : (b : Base) (p : Part) (port tag : ℕ) → is_built (kind_of p) ≡ true → has_room (room (place_of b p) (state_of b p) port tag false) ≡ true
never-full b (P.Store (T.Queue q)) port tag h = built-queue (length q.items) q.capacity h
never-full b (P.Store (T.Buffer q)) port tag h = built-buffer (length q.items) q.capacity h
never-full b (P.Store (T.Priority r)) port tag h = refl
never-full b (P.Store (T.Sequencer t)) port tag h = by_test (ltb tag t.state.next || list_any (λ (i : Item). eqb i.tag tag) t.state.items)
  where
    by_test : (b : Bool) → has_room (cond b (lands L.Lost) (lands L.Kept)) ≡ true
    by_test true = refl
    by_test false = refl
never-full b (P.Join j) port tag h = refl
never-full b (P.Function f) port tag h = by_test f.work.cancelled
  where
    by_test : (b : Bool) → has_room (cond b (lands L.Lost) (lands L.Kept)) ≡ true
    by_test true = refl
    by_test false = refl

same-land : (a b : Land) → same_land a b ≡ true → a ≡ b
same-land L.Kept L.Kept h = refl
same-land L.Eaten L.Eaten h = refl
same-land L.Lost L.Lost h = refl
same-land L.Over L.Over h = refl
same-land a b h = cc

-- how an accepted put lands, and what is given over an edge
put-lands : (made number : ℕ) (r : Room) (land : Land) → is_answer made r (Accepted number land) ≡ true → r ≡ lands land
put-lands made number (lands a) land h = ap lands (same-land a land (and_right (eqb number made) _ h))
put-lands made number (bars cause) land h = cc
put-lands made number by_hold land h = cc

edge-lands : (r : Room) (land : Land) → lands_as r land ≡ true → r ≡ lands land
edge-lands (lands a) land h = ap lands (same-land a land h)
edge-lands (bars cause) land h = cc
edge-lands by_hold land h = cc

-- the caller's answer, whose land is that of the room
pub put-comes : (v : PlacedNode) (c n port tag : ℕ) (val : Val) (number : ℕ) (land : Land) → allows_at v.place v.state (E.Put c n port tag val (Accepted number land)) ≡ true → room v.place v.state port tag true ≡ lands land
put-comes v c n port tag val number land h = put-lands v.state.made number (room v.place v.state port tag true) land (and_right (is_for_callers v.place.kind port) _ h)

pub edge-comes : (v : PlacedNode) (l : Link) (i : Item) (number : ℕ) (land : Land) → eqb l.from v.place.node ≡ false → allows_at v.place v.state (E.Give l i number land) ≡ true → room v.place v.state l.port i.tag false ≡ lands land
edge-comes v l i number land off h =
    let to = rw off at (and_right (is_wired v.place l) _ h) in
    edge-lands (room v.place v.state l.port i.tag false) land (and_right (not (part_takes_holds v.state.part l.port) && eqb number v.state.made) _ to)

-- no offer is refused
pub never-refused : (b : Base) (p : Part) (l : Link) (i : ℕ) → is_built (kind_of p) ≡ true → eqb l.from b.node ≡ false → allows_at (place_of b p) (state_of b p) (E.Refuse l i) ≡ true → ⊥
never-refused b p l i built off h =
    let to = rw off at (and_right (is_wired (place_of b p) l) _ h) in
    let none : not (has_room (room (place_of b p) (state_of b p) l.port 0 false)) ≡ true = and_right (not (has [] l.edge)) _ to in
    clash _ none (ap not (never-full b p l.port 0 built))

-- of the events over an edge it meets only gives as its to-node
pub only-gives : {v : PlacedNode} (b : Base) (p : Part) → placed b p ≡ v → IsKept b p → (e : Event) → is_reserving e ≡ false → IsSome (link_of e) → is_from v.place.node e ≡ false → allows_at v.place v.state e ≡ true
    → ((l : Link) (i : Item) (number : ℕ) (land : Land) → e ≡ E.Give l i number land → ⊥) → ⊥
only-gives b p view kept (E.Give l i number land) met over off h never = never l i number land refl
only-gives b p view kept (E.Refuse l i) met over off h never =
    let away : eqb l.from b.node ≡ false = rw (← view) at off in
    let allowed : allows_at (place_of b p) (state_of b p) (E.Refuse l i) ≡ true = rw (← view) at h in
    never-refused b p l i kept.built away allowed
only-gives b p view kept (E.None l) met over off h never =
    let away : eqb l.from b.node ≡ false = rw (← view) at off in
    let allowed : allows_at (place_of b p) (state_of b p) (E.None l) ≡ true = rw (← view) at h in
    let to = rw away at (and_right (is_wired (place_of b p) l) _ allowed) in
    let none : false ≡ true = to in
    cc
only-gives b p view kept (E.Hold l i number) met over off h never = cc
only-gives b p view kept (E.Take l i) met over off h never = cc
only-gives b p view kept (E.Free l i) met over off h never = cc
only-gives b p view kept e met over off h never = cc

-- ---- rest

none-open : (place : Place) (s : NodeState) (xs : List ℕ) → is_none (offer_wish place s xs) ≡ list_all (λ x. is_empty (candidates place s x)) xs
none-open place s [] = refl
none-open place s (x ∷ xs) = by_first (candidates place s x) (none-open place s xs)
  where
    by_first : (is : List Item) → is_none (offer_wish place s xs) ≡ list_all (λ x. is_empty (candidates place s x)) xs
        → is_none (option_or (option_map (λ (i : Item). W.Offer x i.id.no) (first is)) (offer_wish place s xs)) ≡ (is_empty is && list_all (λ x. is_empty (candidates place s x)) xs)
    by_first [] h = h
    by_first (i ∷ is) h = refl

none-ended : (f : S.Cast → Option Ended) (o : Option S.Cast) → is_none (shut_wish o (end_of_offer f o)) ≡ is_none (end_of_offer f o)
none-ended f None = refl
none-ended f (Some c) = by_end (f c)
  where
    by_end : (o : Option Ended) → is_none (shut_wish (Some c) o) ≡ is_none o
    by_end None = refl
    by_end (Some e) = refl

and_true : (b : Bool) → (b && true) ≡ b
and_true true = refl
and_true false = refl

slot-ended : (f : S.Cast → Option Ended) (o : Option S.Cast) → is_none (shut_wish (first (S.option_list o)) (end_of_offer f o)) ≡ is_none (end_of_offer f o)
slot-ended f None = refl
slot-ended f (Some c) = none-ended f (Some c)

pub rest-is : (b : Base) (p : Part) → at_rest (place_of b p) (state_of b p) ≡ (is_quiet (place_of b p) (state_of b p) && is_none (next_tuple (place_of b p) (part_of p)))
rest-is b (P.Store s) =
    let o = none-open (place_of b (P.Store s)) (state_of b (P.Store s)) b.push.items in
    rw (o, and_true, and_true, and_true, and_true, and_true)
rest-is b (P.Function f) =
    let o = none-open (place_of b (P.Function f)) (state_of b (P.Function f)) b.push.items in
    let e = none-ended (λ c. outbox_end (edges_out (place_of b (P.Function f)) c.port) c) (S.offer (part_of (P.Function f))) in
    rw (o, e, and_true, and_true, and_true, and_true)
rest-is b (P.Join j) =
    let o = none-open (place_of b (P.Join j)) (state_of b (P.Join j)) b.push.items in
    let e = slot-ended (slot_end b.push.items) (option_map cast_in j.slot) in
    rw (o, e, and_true, and_true, and_true)

pub running-runs : (p : S.Part) (i : ℕ) → list_any (is_numbered i) (running_items p) ≡ true → runs_bodies p ≡ true
running-runs (S.body_part w) i h = refl
running-runs p i h = cc

none-is : {X : Type 0} (o : Option X) (r : Bool) → is_some o ≡ not r → is_none o ≡ r
none-is None true h = refl
none-is None false h = cc
none-is (Some x) true h = cc
none-is (Some x) false h = refl

module _ (b : Base) (p : Part) (w : Option Wish) (r : Bool) (offers : w ≡ offer_wish (place_of b p) (state_of b p) b.push.items) (is : is_some w ≡ not r) where
  no-offers : is_none (offer_wish (place_of b p) (state_of b p) b.push.items) ≡ r
  no-offers = ap is_none (sym offers) ∙ none-is w r is

  pub quiet-else : r ≡ false → r ≡ is_quiet (place_of b p) (state_of b p)
  quiet-else f = f ∙ sym (ap (λ (q : Bool). q && is_none (shut_wish (S.offer (part_of p)) (offer_end (place_of b p) (state_of b p)))) (no-offers ∙ f))

  pub quiet-then : (e : Option Wish) (q : Bool) → r ≡ true → e ≡ shut_wish (S.offer (part_of p)) (offer_end (place_of b p) (state_of b p)) → is_some e ≡ not q → q ≡ is_quiet (place_of b p) (state_of b p)
  quiet-then e q t ends has = sym (ap (λ (q : Bool). q && is_none (shut_wish (S.offer (part_of p)) (offer_end (place_of b p) (state_of b p)))) (no-offers ∙ t) ∙ ap is_none (sym ends) ∙ none-is e q has)

none-some : {X : Type 0} (o : Option X) → not (is_some o) ≡ is_none o
none-some None = refl
none-some (Some x) = refl

module _ (b : Base) (p : Part) (q : Bool) (quiet : q ≡ is_quiet (place_of b p) (state_of b p)) where
  -- where something is offered, the node isn't at rest
  pub rest-else : q ≡ false → q ≡ at_rest (place_of b p) (state_of b p)
  rest-else f = f ∙ sym (rest-is b p ∙ ap (λ (q : Bool). q && is_none (next_tuple (place_of b p) (part_of p))) (sym quiet ∙ f))

  pub rest-then : (f : Bool) → q ≡ true → f ≡ is_some (next_tuple (place_of b p) (part_of p)) → not f ≡ at_rest (place_of b p) (state_of b p)
  rest-then f t forms = ap not forms ∙ none-some (next_tuple (place_of b p) (part_of p)) ∙ sym (rest-is b p ∙ ap (λ (q : Bool). q && is_none (next_tuple (place_of b p) (part_of p))) (sym quiet ∙ t))

-- ---- tuples

pub tuple-event-is : (b : Base) (p : Part) → tuple_event (placed b p) (part_of p) ≡ form_event b.node b.made (next_tuple (place_of b p) (part_of p))
tuple-event-is b (P.Store s) = refl
tuple-event-is b (P.Function f) = refl
tuple-event-is b (P.Join j) = refl

pub formed-event : (n made : ℕ) (o : Option (List Item)) (ids : List Id) → Some ids ≡ option_map (map id_of) o → Some (E.Form n made ids) ≡ form_event n made o
formed-event n made None ids h = cc
formed-event n made (Some is) ids h = let same : ids ≡ map id_of is = cc in rw same refl

pub no-event : (n made : ℕ) (o : Option (List Item)) → None ≡ option_map (map id_of) o → None ≡ form_event n made o
no-event n made None h = refl
no-event n made (Some is) h = cc

-- a tuple that may be formed is there
pub form-allowed : (v : PlacedNode) (n number : ℕ) (ids : List Id) → allows_at v.place v.state (E.Form n number ids) ≡ true → is_some (next_tuple v.place v.state.part) ≡ true
form-allowed v n number ids h = by_next (next_tuple v.place v.state.part) (and_right (eqb number v.state.made) _ h)
  where
    by_next : (o : Option (List Item)) → are_parts o ids ≡ true → is_some o ≡ true
    by_next None h = cc
    by_next (Some is) h = refl

-- where a tuple is formed, no casts are to come
pub formed-coming : (b : Base) (p : Part) → is_some (next_tuple (place_of b p) (part_of p)) ≡ true → coming_of p ≡ []
formed-coming b (P.Store s) h = refl
formed-coming b (P.Function f) h = cc
formed-coming b (P.Join j) h = refl

pub formed-counted : (b : Base) (p : Part) (made number : ℕ) → is_some (next_tuple (place_of b p) (part_of p)) ≡ true → is_counted made (part_after_form (place_of b p) number (part_of p) (next_tuple (place_of b p) (part_of p))) ≡ true
formed-counted b (P.Store s) made number h = cc
formed-counted b (P.Function f) made number h = cc
formed-counted b (P.Join j) made number h = by_next (next_tuple (place_of b (P.Join j)) (part_of (P.Join j)))
  where
    by_next : (o : Option (List Item)) → is_counted made (part_after_form (place_of b (P.Join j)) number (part_of (P.Join j)) o) ≡ true
    by_next None = refl
    by_next (Some is) = refl

pub formed-after : {v : PlacedNode} (b : Base) (p p' : Part) (number : ℕ) → placed b p ≡ v → kind_of p' ≡ kind_of p → part_of p' ≡ part_after_form (place_of b p) number (part_of p) (next_tuple (place_of b p) (part_of p)) → placed (record b { made = b.made + 1; due = true }) p' ≡ tuple_formed v number
formed-after b p p' number view kind is = rw (← view, kind, is)
