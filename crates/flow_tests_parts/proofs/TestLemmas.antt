-- What a test sees of a node that it steps.
use Rattle.std.proofs.Common.{◌≡◌, ℕ, Bool, true, false, not, ◌||◌, cond, Option, Some, None, List, [], ◌∷◌, Bor, refl, sym, ap, ◌∙◌, eq-eqb, ◌&&◌, map, eqb}
use Rattle.flow_machine.specs.WishEvents.{event_of, tuple_event, form_event, id_of}
use Rattle.flow_item.specs.declared.item.Id.{Id}
use Rattle.std.specs.List.{list_any, find}
use Rattle.std.specs.Prelude.{is_some}
use Rattle.std.specs.Bool.{then_some}
use Rattle.std.specs.Option.{option_map, option_or, option_copied}
use Rattle.flow_item.specs.declared.item.Item.{Item}
use Rattle.flow_item.specs.declared.item.Msg.{Msg}
use Rattle.flow_item.specs.declared.event.Land.{Land}
use Rattle.flow_item.specs.declared.event.Link.{Link}
use Rattle.flow_item.specs.declared.event.Event.TheVariants as E
use Rattle.flow_item.specs.Values.{same_item, same_ids}
use Rattle.flow_item.specs.declared.event.Ended.{Ended}
use Rattle.flow_item.specs.declared.event.Ended.TheVariants as Z
use Rattle.flow_item.specs.Lists.{first}
use Rattle.flow_item.proofs.Tests.{both_true}
use Rattle.flow_shape.specs.declared.Kind.{Kind}
use Rattle.flow_shape.specs.Kinds.{is_async}
use Rattle.flow_shape.specs.Places.{Place, is_wired}
use Rattle.flow_machine.specs.declared.Debt.{Debt}
use Rattle.flow_machine.specs.declared.Wish.{Wish}
use Rattle.flow_machine.specs.declared.Wish.TheVariants as W
use Rattle.flow_machine.specs.State.{Held, Cast, Part, body_part, reserve_part, NodeState, offer, PlacedNode, split_part}
use Rattle.flow_machine.specs.Offers.{candidates, gives_up, offer_end, next_tuple, split_msgs}
use Rattle.flow_machine.specs.Wishes.{first_hold, pay_debt, give_up_held, give_up_wish, is_ready, next_start, start_wish, shut_wish, offer_wish, next_wish, or_nothing, wish_of}
use Rattle.flow_machine.specs.Enabled.{may_start, may_end, is_numbered, first_is, same_ended, ends_as, debts_of, waits_to_split, wants_over, allows_at, are_parts}
use Rattle.flow_node.specs.NodeViews.{first_ready, running_items}
use Rattle.flow_node.proofs.SameItems.{item-same}

-- the first ready body may start
pub ready-starts : (p : Part) (i : Item) → Some i ≡ first_ready p → may_start p i.id.no ≡ true
ready-starts (body_part w) i h = by_list w.ready h
  where
    by_list : (is : List Item) → Some i ≡ first is → first_is i.id.no is ≡ true
    by_list [] h = cc
    by_list (j ∷ js) h = let same : i ≡ j = cc in rw same (eq-eqb j.id.no j.id.no refl)
ready-starts p i h = cc

found-any : {X : Type 0} (p : X → Bool) (xs : List X) (x : X) → Some x ≡ find p xs → list_any p xs ≡ true
found-any p [] x h = cc
found-any {X} p (y ∷ ys) x h = by_first (p y) h (found-any p ys x)
  where
    by_first : (b : Bool) → Some x ≡ cond b (Some y) (find p ys) → (Some x ≡ find p ys → list_any p ys ≡ true) → (b || list_any p ys) ≡ true
    by_first true h later = refl
    by_first false h later = later h

pub some-found : {T : Type 0} (p : T → Bool) (xs : List T) (r : Bool) (o : Option (Bor T)) → is_some o ≡ not r → r ≡ false → option_copied o ≡ find p xs → list_any p xs ≡ true
some-found p xs r None h f is = let never : ◌≡◌ {A = Bool} false true = rw f at h in cc
some-found p xs r (Some x) h f is = found-any p xs x.now is

-- a running body of a node that isn't async may end
pub running-ends : (k : Kind) (p : Part) (i : ℕ) (outs : List Msg) → is_async k ≡ false → list_any (is_numbered i) (running_items p) ≡ true → may_end k p i outs ≡ true
running-ends k (body_part w) i outs plain h = both_true h (rw plain refl)
running-ends k p i outs plain h = cc

-- the first item that may go over an out edge may be given over it
pub first-gives : (place : Place) (s : NodeState) (l : Link) (i : Item) (number : ℕ) (land : Land) → l.from ≡ place.node → is_wired place l ≡ true → Some i ≡ first (candidates place s l.edge) → allows_at place s (E.Give l i number land) ≡ true
first-gives place s l i number land from wired h =
    both_true wired (rw (eq-eqb l.from place.node from) (by_list (candidates place s l.edge) h))
  where
    by_list : (is : List Item) → Some i ≡ first is → list_any (same_item i) is ≡ true
    by_list [] h = cc
    by_list (j ∷ js) h = let same : i ≡ j = cc in rw (same, item-same j) refl

-- ---- the wish to end a cast

abbrev is_shut : Option Wish → Bool
is_shut (Some (W.Shut i ended)) = true
is_shut o = false

or-shut : (a b : Option Wish) (i : ℕ) (e : Ended) → is_shut a ≡ false → option_or a b ≡ Some (W.Shut i e) → b ≡ Some (W.Shut i e)
or-shut None b i e n h = h
or-shut (Some w) b i e n h =
    let never : ◌≡◌ {A = Bool} false true = sym n ∙ ap is_shut h in
    cc

pays-none : (o : Option Debt) → is_shut (option_map pay_debt o) ≡ false
pays-none None = refl
pays-none (Some d) = refl

offers-none : (place : Place) (s : NodeState) (xs : List ℕ) → is_shut (offer_wish place s xs) ≡ false
offers-none place s [] = refl
offers-none place s (x ∷ xs) = by_first (first (candidates place s x)) (offers-none place s xs)
  where
    by_first : (o : Option Item) → is_shut (offer_wish place s xs) ≡ false → is_shut (option_or (option_map (λ (i : Item). W.Offer x i.id.no) o) (offer_wish place s xs)) ≡ false
    by_first None h = h
    by_first (Some i) h = refl

-- the wishes that come after the end of a cast
abbrev after_shut : Place → NodeState → Option Wish
after_shut place s =
    option_or (then_some (is_some (next_tuple place s.part) || waits_to_split s.part) W.Form)
    (option_or (give_up_wish place s s.part)
    (option_or (option_map W.Ask (find (wants_over place s) s.pull))
    (option_or (start_wish s.part)
    (then_some s.due W.Idle))))

ended-same : (e : Ended) → same_ended e e ≡ true
ended-same Z.Out = refl
ended-same Z.Lost = refl
ended-same Z.Won = refl
ended-same Z.Failed = refl

-- what comes after the end of a cast is no such wish
rest-none : (place : Place) (s : NodeState) → is_shut (after_shut place s) ≡ false
rest-none place s = or_none (then_some (is_some (next_tuple place s.part) || waits_to_split s.part) W.Form) _ (form (is_some (next_tuple place s.part) || waits_to_split s.part))
    (or_none (give_up_wish place s s.part) _ (gives s.part)
    (or_none (option_map W.Ask (find (wants_over place s) s.pull)) _ (asks (find (wants_over place s) s.pull))
    (or_none (start_wish s.part) _ (starts (is_ready s.part) (next_start s.part)) (idles s.due))))
  where
    or_none : (a b : Option Wish) → is_shut a ≡ false → is_shut b ≡ false → is_shut (option_or a b) ≡ false
    or_none None b h g = g
    or_none (Some w) b h g = h

    form : (b : Bool) → is_shut (then_some b W.Form) ≡ false
    form true = refl
    form false = refl

    by_held : (o : Option Held) → is_shut (option_map give_up_held o) ≡ false
    by_held None = refl
    by_held (Some h) = refl

    by_gives : (b : Bool) (o : Option Held) → is_shut (cond b (option_map give_up_held o) None) ≡ false
    by_gives true o = by_held o
    by_gives false o = refl

    gives : (p : Part) → is_shut (give_up_wish place s p) ≡ false
    gives (reserve_part r) = by_gives (gives_up place s r) (first_hold r.held)
    gives p = refl

    asks : (o : Option ℕ) → is_shut (option_map W.Ask o) ≡ false
    asks None = refl
    asks (Some x) = refl

    starts : (b : Bool) (o : Option ℕ) → is_shut (cond b (option_map W.Start o) None) ≡ false
    starts true None = refl
    starts true (Some i) = refl
    starts false o = refl

    idles : (b : Bool) → is_shut (then_some b W.Idle) ≡ false
    idles true = refl
    idles false = refl

shut-ends : (c : Option Cast) (o : Option Ended) (b : Option Wish) (i : ℕ) (e : Ended) → is_shut b ≡ false → option_or (shut_wish c o) b ≡ Some (W.Shut i e) → ends_as c o i e ≡ true
shut-ends (Some c) (Some ended) b i e n h =
    let same : ◌≡◌ {A = Option Wish} (Some (W.Shut c.item.id.no ended)) (Some (W.Shut i e)) = h in
    let number : c.item.id.no ≡ i = cc in
    let how : ended ≡ e = cc in
    both_true (eq-eqb c.item.id.no i number) (rw how (ended-same e))
shut-ends None o b i e n h = let never : ◌≡◌ {A = Bool} false true = sym n ∙ ap is_shut h in cc
shut-ends (Some c) None b i e n h = let never : ◌≡◌ {A = Bool} false true = sym n ∙ ap is_shut h in cc

-- a cast that the node wishes to end may end so
pub wish-shuts : (place : Place) (s : NodeState) (i : ℕ) (e : Ended) → W.Shut i e ≡ wish_of place s → ends_as (offer s.part) (offer_end place s) i e ≡ true
wish-shuts place s i e h = by_due (s.due || is_ready s.part) h
  where
    by_next : (o : Option Wish) → W.Shut i e ≡ or_nothing o → o ≡ Some (W.Shut i e)
    by_next None h = cc
    by_next (Some w) h = ap Some (sym h)

    by_due : (b : Bool) → W.Shut i e ≡ cond b (or_nothing (next_wish place s)) W.Nothing → ends_as (offer s.part) (offer_end place s) i e ≡ true
    by_due true h =
        let next = by_next (next_wish place s) h in
        let later = or-shut (option_map pay_debt (first (debts_of s.part))) _ i e (pays-none (first (debts_of s.part))) next in
        let here = or-shut (offer_wish place s s.push) _ i e (offers-none place s s.push) later in
        shut-ends (offer s.part) (offer_end place s) (after_shut place s) i e (rest-none place s) here
    by_due false h = cc

-- ---- tuples

ids-same : (ids : List Id) → same_ids ids ids ≡ true
ids-same [] = refl
ids-same (i ∷ ids) = both_true (both_true (eq-eqb i.node i.node refl) (eq-eqb i.no i.no refl)) (ids-same ids)

-- the tuple of the node's own event may be formed
pub event-forms : (v : PlacedNode) (others : ℕ → Option PlacedNode) (worker n number : ℕ) (ids : List Id) → Some (E.Form n number ids) ≡ event_of v others worker W.Form → (eqb number v.state.made && are_parts (next_tuple v.place v.state.part) ids) ≡ true
event-forms v others worker n number ids h = by_part v.state.part h
  where
    by_next : (o : Option (List Item)) → Some (E.Form n number ids) ≡ form_event v.place.node v.state.made o → (eqb number v.state.made && are_parts o ids) ≡ true
    by_next None h = cc
    by_next (Some is) h =
        let no : number ≡ v.state.made = cc in
        let same : ids ≡ map id_of is = cc in
        both_true (eq-eqb number v.state.made no) (rw same (ids-same (map id_of is)))

    by_waiting : (o : Option Item) → Some (E.Form n number ids) ≡ option_map (λ (i : Item). E.Split v.place.node i.id.no v.state.made (split_msgs i)) o → ⊥
    by_waiting None h = cc
    by_waiting (Some i) h = cc

    by_part : (p : Part) → Some (E.Form n number ids) ≡ tuple_event v p → (eqb number v.state.made && are_parts (next_tuple v.place p) ids) ≡ true
    by_part (split_part p) h = absurd (by_waiting (first p.waiting) h)
    by_part p h = by_next (next_tuple v.place p) h
