-- Turns and tickets are no more than the events of their node.
use Rattle.std.proofs.Common.{◌≡◌, ℕ, suc, ◌+◌, ◌≤◌, Bool, true, false, cond, eqb, Option, Some, None, List, [], ◌∷◌, ◌++◌, length, refl, arith, length-append}
use Rattle.std.specs.List.{list_any, find}
use Rattle.flow_item.specs.declared.item.Item.{Item}
use Rattle.flow_item.specs.declared.item.Msg.{Msg}
use Rattle.flow_item.specs.declared.event.Event.{Event}
use Rattle.flow_item.specs.declared.event.Event.TheVariants as E
use Rattle.flow_item.specs.declared.event.Ended.{Ended}
use Rattle.flow_item.specs.declared.event.Land.{Land}
use Rattle.flow_item.specs.declared.event.Land.TheVariants as L
use Rattle.flow_item.specs.declared.event.Link.{Link}
use Rattle.flow_item.specs.declared.event.Parties.{Parties}
use Rattle.flow_item.specs.declared.event.Party.{Party}
use Rattle.flow_item.specs.declared.event.PutAnswer.TheVariants.{Accepted}
use Rattle.flow_item.specs.Legal.{takes_part, projection, replay}
use Rattle.flow_item.specs.Lists.{drop_first}
use Rattle.flow_shape.specs.declared.Kind.{Kind}
use Rattle.flow_shape.specs.declared.Kind.TheVariants as K
use Rattle.flow_shape.specs.Kinds.{is_async, limit_of}
use Rattle.flow_shape.specs.Places.{Place, over, to_limits, edge_switches}
use Rattle.flow_machine.specs.State.{BodyState, ContinueState, Part, body_part, input_part, join_part, reserve_part, split_part, continue_part, NodeState, option_list, start, start_part, casts_of}
use Rattle.flow_machine.specs.Offers.{has_place, next_tuple}
use Rattle.flow_machine.specs.Enabled.{is_numbered, is_debt}
use Rattle.flow_machine.specs.After.{queue_up, count_up, need_of, part_after_arrival, part_after_landing, part_after_give, part_after_refuse, part_after_hold, part_after_take, part_after_free, from_after, part_with_hold, part_without_debt, part_without_hold, to_after, part_after_act, part_after_cancel, part_after_start, with_promotion_of, part_after_end, part_after_back, part_after_form, part_after_split, part_after_shut, end_after, part_after, after}
use Rattle.flow_machine.specs.Machine.{node_after}

-- the turns that there were or are to come, or the tickets
abbrev pub size_of : Part → ℕ
size_of (body_part w) = length w.tickets
size_of (input_part f) = f.turn
size_of (continue_part c) = c.goes
size_of p = 0

same : (m n : ℕ) → m ≡ n → m ≤ suc n
same m n h = omega (arith, h)

queued : (l : Option ℕ) (i : Item) (w : BodyState) → size_of (body_part (queue_up l i w)) ≤ suc (length w.tickets)
queued l i w = by_place (has_place l w)
  where
    by_place : (b : Bool) → length (cond b (record w { ready = w.ready ++ i ∷ [] }) (record w { waiting = w.waiting ++ i ∷ [] })).tickets ≤ suc (length w.tickets)
    by_place true = omega arith
    by_place false = omega arith

counted : (need : ℕ) (c : ContinueState) → (count_up need c).goes ≤ suc c.goes
counted need c = by_need (eqb (suc c.got) need)
  where
    by_need : (b : Bool) → (cond b (record c { got = 0; goes = suc c.goes }) (record c { got = suc c.got })).goes ≤ suc c.goes
    by_need true = omega arith
    by_need false = omega arith

arrived : (place : Place) (push : List ℕ) (p : Part) (port : ℕ) (i : Item) → size_of (part_after_arrival place push p port i) ≤ suc (size_of p)
arrived place push (body_part w) port i = queued (limit_of place.kind) i w
arrived place push (continue_part c) port i = counted (need_of place) c
arrived place push p port i = omega arith

landed : (place : Place) (s : NodeState) (port tag : ℕ) (val : Rattle.flow_item.specs.declared.val.Val.Val) (land : Land) → size_of (part_after_landing place s port tag val land) ≤ suc (size_of s.part)
landed place s port tag val L.Lost = omega arith
landed place s port tag val land = arrived place s.push s.part port _

given : (k : Kind) (p : Part) (x i : ℕ) → size_of (part_after_give k p x i) ≡ size_of p
given k (body_part w) x i = refl
given k p x i = refl

refused : (b : Bool) (p : Part) (x : ℕ) → size_of (part_after_refuse b p x) ≡ size_of p
refused b (body_part w) x = refl
refused b p x = refl

reserved : (p : Part) (x i : ℕ) → size_of (part_after_hold p x i) ≡ size_of p
reserved (body_part w) x i = refl
reserved p x i = refl

taken : (k : Kind) (p : Part) (x i : ℕ) → size_of (part_after_take k p x i) ≡ size_of p
taken k (body_part w) x i = refl
taken k p x i = refl

freed : (b c : Bool) (p : Part) (x i : ℕ) → size_of (part_after_free b c p x i) ≡ size_of p
freed b c (body_part w) x i = refl
freed b c p x i = refl

holding : (place : Place) (s : NodeState) (p : Part) (x port : ℕ) (i : Item) → size_of (part_with_hold place s p x port i) ≡ size_of p
holding place s (body_part w) x port i = refl
holding place s p x port i = refl

paid : (p : Part) (x i : ℕ) → size_of (part_without_debt p x i) ≡ size_of p
paid (body_part w) x i = refl
paid p x i = refl

let-go : (p : Part) (x i : ℕ) → size_of (part_without_hold p x i) ≡ size_of p
let-go (reserve_part r) x i = by_debt (list_any (is_debt x i) r.debts)
  where
    by_debt : (b : Bool) → size_of (cond b (part_without_debt (reserve_part r) x i) (reserve_part record r { held = Rattle.std.specs.Prelude.map (Rattle.flow_machine.specs.After.unless_held x i) r.held })) ≡ 0
    by_debt true = refl
    by_debt false = refl
let-go p x i = refl

acted : (p : Part) → size_of (part_after_act p) ≡ size_of p
acted (body_part w) = refl
acted p = refl

cancelled : (p : Part) → size_of (part_after_cancel p) ≡ size_of p
cancelled (body_part w) = refl
cancelled p = refl

started : (p : Part) → size_of (part_after_start p) ≡ size_of p
started (body_part w) = refl
started p = refl

promoted : (is : List Item) (l : Option ℕ) (w : BodyState) → length (with_promotion_of is l w).tickets ≡ length w.tickets
promoted [] l w = refl
promoted (i ∷ is) l w = by_place (has_place l w)
  where
    by_place : (b : Bool) → length (cond b (record w { waiting = is; ready = w.ready ++ i ∷ [] }) w).tickets ≡ length w.tickets
    by_place true = refl
    by_place false = refl

at-most : (o : Option Item) → length (option_list o) ≤ 1
at-most None = omega arith
at-most (Some x) = omega arith

ticketed : (b : Bool) (ts : List Item) (o : Option Item) → length (cond b (ts ++ option_list o) ts) ≤ suc (length ts)
ticketed true ts o = let e = length-append ts (option_list o) in let m = at-most o in omega (arith, e, m)
ticketed false ts o = omega arith

ended : (place : Place) (p : Part) (i number : ℕ) (outs : List Msg) → size_of (part_after_end place p i number outs) ≤ suc (size_of p)
ended place (body_part w) i number outs =
    let v : BodyState = record w {
      running = drop_first (is_numbered i) w.running;
      tickets = cond (is_async place.kind) (w.tickets ++ option_list (find (is_numbered i) w.running)) w.tickets;
      outbox = w.outbox ++ casts_of place.node number outs;
    } in
    let e = promoted w.waiting (limit_of place.kind) v in
    let m = ticketed (is_async place.kind) w.tickets (find (is_numbered i) w.running) in
    omega (arith, e, m)
ended place p i number outs = omega arith

backed : (place : Place) (p : Part) (i number : ℕ) (outs : List Msg) → size_of (part_after_back place p i number outs) ≤ suc (size_of p)
backed place (body_part w) i number outs = let e = dropped w.tickets in omega (arith, e)
  where
    dropped : (xs : List Item) → length (drop_first (is_numbered i) xs) ≤ length xs
    dropped [] = omega arith
    dropped (x ∷ xs) = by_first (is_numbered i x) (dropped xs)
      where
        by_first : (b : Bool) → length (drop_first (is_numbered i) xs) ≤ length xs → length (cond b xs (x ∷ drop_first (is_numbered i) xs)) ≤ suc (length xs)
        by_first true h = omega arith
        by_first false h = omega (arith, h)
backed place p i number outs = omega arith

formed : (place : Place) (number : ℕ) (p : Part) (o : Option (List Item)) → size_of (part_after_form place number p o) ≡ size_of p
formed place number (join_part j) (Some parts) = refl
formed place number (reserve_part r) (Some parts) = refl
formed place number p o = refl

split : (place : Place) (number : ℕ) (p : Part) (outs : List Msg) → size_of (part_after_split place number p outs) ≡ size_of p
split place number (split_part p) outs = refl
split place number p outs = refl

shut : (p : Part) (z : Ended) → size_of (part_after_shut p z) ≡ size_of p
shut (body_part w) z = refl
shut p z = refl

at-end : (place : Place) (l : Link) (from to p : Part) → size_of from ≤ suc (size_of p) → size_of to ≤ suc (size_of p) → size_of (end_after place l from to) ≤ suc (size_of p)
at-end place l from to p f t = by_end (eqb l.from place.node)
  where
    by_end : (b : Bool) → size_of (cond b from to) ≤ suc (size_of p)
    by_end true = f
    by_end false = t

size-after : (place : Place) (s : NodeState) (e : Event) → size_of (part_after place s e) ≤ suc (size_of s.part)
size-after place s (E.Put c m port tag val (Accepted number land)) = landed place s port tag val land
size-after place s (E.Act c m) = same _ _ (acted s.part)
size-after place s (E.Cancel c m dropped) = same _ _ (cancelled s.part)
size-after place s (E.Give l i number land) = at-end place l (from_after place s (E.Give l i number land)) (to_after place s (E.Give l i number land)) s.part (same _ _ (given place.kind s.part l.edge i.id.no)) (landed place s l.port i.tag i.val land)
size-after place s (E.Refuse l i) = at-end place l (from_after place s (E.Refuse l i)) (to_after place s (E.Refuse l i)) s.part (same _ _ (refused (over place l edge_switches) s.part l.edge)) (omega arith)
size-after place s (E.Hold l i number) = at-end place l (from_after place s (E.Hold l i number)) (to_after place s (E.Hold l i number)) s.part (same _ _ (reserved s.part l.edge i.id.no)) (same _ _ (holding place s s.part l.edge l.port i))
size-after place s (E.Take l i) = at-end place l (from_after place s (E.Take l i)) (to_after place s (E.Take l i)) s.part (same _ _ (taken place.kind s.part l.edge i)) (same _ _ (paid s.part l.edge i))
size-after place s (E.Free l i) = at-end place l (from_after place s (E.Free l i)) (to_after place s (E.Free l i)) s.part (same _ _ (freed (over place l edge_switches) (over place l to_limits) s.part l.edge i)) (same _ _ (let-go s.part l.edge i))
size-after place s (E.Start w m i) = same _ _ (started s.part)
size-after place s (E.End w m i number outs) = ended place s.part i number outs
size-after place s (E.Back w m i number outs) = backed place s.part i number outs
size-after place s (E.Form m number parts) = same _ _ (formed place number s.part (next_tuple place s.part))
size-after place s (E.Split m i number outs) = same _ _ (split place number s.part outs)
size-after place s (E.Shut m i z) = same _ _ (shut s.part z)
size-after place s e = omega arith

size-replay : (place : Place) (s : NodeState) (es : List Event) → size_of (replay (after place) s es).part ≤ size_of s.part + length es
size-replay place s [] = omega arith
size-replay place s (e ∷ es) =
    let one = size-after place s e in
    let rest = size-replay place (after place s e) es in
    omega (arith, one, rest)

start-none : (k : Kind) → size_of (start_part k) ≡ 0
start-none (K.Buffer capacity) = refl
start-none k = refl

pub size-own : (place : Place) (es : List Event) → size_of (node_after place es).part ≤ length es
size-own place es = let none = start-none place.kind in let r = size-replay place (start place) es in omega (arith, none, r)

pub own-short : (parties : Event → Parties) (p : Party) (es : List Event) → length (projection parties p es) ≤ length es
own-short parties p [] = omega arith
own-short parties p (e ∷ es) = by_part (takes_part (parties e) p) (own-short parties p es)
  where
    by_part : (b : Bool) → length (projection parties p es) ≤ length es → length (cond b (e ∷ projection parties p es) (projection parties p es)) ≤ suc (length es)
    by_part true h = omega (arith, h)
    by_part false h = omega (arith, h)
