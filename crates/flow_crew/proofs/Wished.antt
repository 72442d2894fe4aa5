-- The event of a wish is no caller's, and ends no body.
use Rattle.std.proofs.Common.{◌≡◌, ℕ, Bool, true, false, cond, Option, Some, None, List, map, refl, sym, ap, ◌∙◌, subst}
use Rattle.std.specs.Option.{option_map}
use Rattle.std.specs.List.{find}
use Rattle.flow_item.specs.declared.item.Item.{Item}
use Rattle.flow_item.specs.declared.event.Event.{Event}
use Rattle.flow_item.specs.declared.event.Event.TheVariants as E
use Rattle.flow_item.specs.declared.event.Link.{Link}
use Rattle.flow_item.specs.Lists.{first}
use Rattle.flow_shape.specs.Places.{wire_in}
use Rattle.flow_machine.specs.State.{Part, split_part, PlacedNode}
use Rattle.flow_machine.specs.Offers.{candidates, Room, lands, bars, by_hold, has_room, room, next_tuple, split_msgs}
use Rattle.flow_machine.specs.Enabled.{is_numbered, part_takes_holds, hold_number}
use Rattle.flow_machine.specs.Bodies.{Meanings}
use Rattle.flow_machine.specs.WishEvents.{link_over, given_event, offer_event, ask_event, id_of, tuple_event, where_some, event_of, event_of_wish, placed_at}
use Rattle.flow_machine.specs.declared.Wish.{Wish}
use Rattle.flow_machine.specs.declared.Wish.TheVariants as W
use Rattle.flow_line.specs.declared.view.About.{About}
use Rattle.flow_line.specs.Values.{Sitting}
use Rattle.flow_book.specs.declared.machine.Run.{Run}
use Rattle.flow_book.specs.Answers.{about_of}
use Rattle.flow_book.specs.Callers.{number_of}
use Rattle.flow_book.specs.Serving.{IsOfWish, IsWished}
use Rattle.flow_crew.specs.Crew.{IsWork}

-- whether the event is of nodes alone, or starts a body
abbrev pub is_inner : Event → Bool
is_inner (E.Put c n port tag val answer) = false
is_inner (E.Act c n) = false
is_inner (E.Cancel c n dropped) = false
is_inner (E.Leave c) = false
is_inner (E.End w n i number outs) = false
is_inner (E.Back w n i number outs) = false
is_inner e = true

abbrev pub is_inner_at : Option Event → Bool
is_inner_at None = true
is_inner_at (Some e) = is_inner e

inner-map : {X : Type 0} (f : X → Event) → ((x : X) → is_inner (f x) ≡ true) → (o : Option X) → is_inner_at (option_map f o) ≡ true
inner-map f h None = refl
inner-map f h (Some x) = h x

inner-where : {X : Type 0} (f : X → Option Event) → ((x : X) → is_inner_at (f x) ≡ true) → (o : Option X) → is_inner_at (where_some o f) ≡ true
inner-where f h None = refl
inner-where f h (Some x) = h x

inner-either : (b : Bool) (d e : Event) → is_inner d ≡ true → is_inner e ≡ true → is_inner (cond b d e) ≡ true
inner-either true d e h i = h
inner-either false d e h i = i

inner-given : (l : Link) (i : Item) (made : ℕ) (r : Room) → is_inner (given_event l i made r) ≡ true
inner-given l i made (lands land) = refl
inner-given l i made (bars cause) = refl
inner-given l i made by_hold = refl

inner-offer : (l : Link) (i : Item) (to : PlacedNode) → is_inner (offer_event l i to) ≡ true
inner-offer l i to =
    let given : Event = given_event l i to.state.made (room to.place to.state l.port i.tag false) in
    let held : Event = cond (has_room (room to.place to.state l.port 0 false)) (E.Hold l i (hold_number to.place to.state)) (E.Refuse l i.id.no) in
    inner-either (part_takes_holds to.state.part l.port) held given
    (inner-either (has_room (room to.place to.state l.port 0 false)) (E.Hold l i (hold_number to.place to.state)) (E.Refuse l i.id.no) refl refl)
    (inner-given l i to.state.made (room to.place to.state l.port i.tag false))

inner-ask : (l : Link) (o : Option Item) (to : PlacedNode) → is_inner (ask_event l o to) ≡ true
inner-ask l None to = refl
inner-ask l (Some i) to =
    inner-either (part_takes_holds to.state.part l.port) (E.Hold l i (hold_number to.place to.state)) (given_event l i to.state.made (room to.place to.state l.port i.tag false))
    refl (inner-given l i to.state.made (room to.place to.state l.port i.tag false))

inner-tuple : (node : PlacedNode) (p : Part) → is_inner_at (tuple_event node p) ≡ true
inner-tuple node (split_part p) = inner-map (λ (i : Item). E.Split node.place.node i.id.no node.state.made (split_msgs i)) (λ i. refl) (first p.waiting)
inner-tuple node p = inner-map (λ (is : List Item). E.Form node.place.node node.state.made (map id_of is)) (λ is. refl) (next_tuple node.place p)

inner-wish : (node : PlacedNode) (others : ℕ → Option PlacedNode) (w : ℕ) (wish : Wish) → is_inner_at (event_of node others w wish) ≡ true
inner-wish node others w (W.Pay x i take) = inner-map (λ l. cond take (E.Take (link_over l) i) (E.Free (link_over l) i)) (λ l. inner-either take (E.Take (link_over l) i) (E.Free (link_over l) i) refl refl) (wire_in node.place.ins x)
inner-wish node others w (W.Offer x j) =
    inner-where (λ l. where_some (find (is_numbered j) (candidates node.place node.state x)) (λ i. option_map (offer_event (link_over l) i) (others l.to)))
    (λ l. inner-where (λ i. option_map (offer_event (link_over l) i) (others l.to)) (λ i. inner-map (offer_event (link_over l) i) (inner-offer (link_over l) i) (others l.to)) (find (is_numbered j) (candidates node.place node.state x)))
    (wire_in node.place.outs x)
inner-wish node others w (W.Shut i ended) = refl
inner-wish node others w W.Form = inner-tuple node node.state.part
inner-wish node others w (W.GiveUp x i) = inner-map (λ l. E.Free (link_over l) i) (λ l. refl) (wire_in node.place.ins x)
inner-wish node others w (W.Ask x) =
    inner-where (λ l. option_map (λ (from : PlacedNode). ask_event (link_over l) (first (candidates from.place from.state x)) node) (others l.from))
    (λ l. inner-map (λ (from : PlacedNode). ask_event (link_over l) (first (candidates from.place from.state x)) node) (λ from. inner-ask (link_over l) (first (candidates from.place from.state x)) node) (others l.from))
    (wire_in node.place.ins x)
inner-wish node others w (W.Start i) = refl
inner-wish node others w W.Idle = refl
inner-wish node others w W.Nothing = refl

inner-work : (m : Meanings) (run : Run) (es : List Event) (e : Event) → is_inner e ≡ true → IsWork m run es e
inner-work m run es (E.Put c n port tag val answer) h = cc
inner-work m run es (E.Act c n) h = cc
inner-work m run es (E.Cancel c n dropped) h = cc
inner-work m run es (E.Leave c) h = cc
inner-work m run es (E.End w n i number outs) h = cc
inner-work m run es (E.Back w n i number outs) h = cc
inner-work m run es e h = (refl, refl)

-- the event of a node's wish is a worker's work
pub wish-works : (m : Meanings) (run : Run) (items events : ℕ) (n : ℕ) (d : Sitting Event Run) → d.about ≡ about_of run items events → (e : Event) → IsWished n d e → IsWork m run d.seen e
wish-works m run items events n d about e h =
    let w : IsOfWish (about_of run items events) d.seen n (number_of d.party) e = subst (λ (o : Option (About Run)). IsOfWish o d.seen n (number_of d.party) e) about h in
    let all : is_inner_at (event_of_wish run.shape d.seen n (number_of d.party) w.0) ≡ true =
    inner-where (λ node. event_of node (placed_at run.shape d.seen) (number_of d.party) w.0) (λ node. inner-wish node (placed_at run.shape d.seen) (number_of d.party) w.0) (placed_at run.shape d.seen n) in
    inner-work m run d.seen e (ap is_inner_at (sym w.4) ∙ all)
