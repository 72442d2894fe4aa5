-- The item of a body that runs stays as it was when the body began.
use Rattle.std.proofs.Common.{◌≡◌, ℕ, suc, ◌+◌, ◌<◌, ◌≤◌, Bool, true, false, cond, not, ◌||◌, eqb, ltb, Option, Some, None, List, [], ◌∷◌, ◌++◌, refl, sym, ap, ◌∙◌, arith}
use Rattle.std.proofs.lemmas.Bool.{eqb-true, ltb-true}
use Rattle.std.specs.Prelude.{slice_get}
use Rattle.std.specs.List.{list_all, list_any}
use Rattle.flow_item.specs.declared.val.Val.{Val}
use Rattle.flow_item.specs.declared.item.Item.{Item}
use Rattle.flow_item.specs.declared.item.Msg.{Msg}
use Rattle.flow_item.specs.declared.event.Event.{Event}
use Rattle.flow_item.specs.declared.event.Event.TheVariants as E
use Rattle.flow_item.specs.declared.event.PutAnswer.TheVariants.{Accepted, Refused}
use Rattle.flow_item.specs.declared.event.Link.{Link}
use Rattle.flow_item.specs.declared.event.Land.{Land}
use Rattle.flow_item.specs.declared.event.Land.TheVariants as L
use Rattle.flow_item.specs.Lists.{first, drop_first}
use Rattle.flow_item.specs.Legal.{replay}
use Rattle.flow_item.proofs.Tests.{and_left, and_right, both_true}
use Rattle.flow_shape.specs.Kinds.{limit_of, is_async}
use Rattle.flow_shape.specs.Places.{Place, over, to_limits, edge_switches}
use Rattle.flow_machine.specs.State.{BodyState, Part, body_part, reserve_part, join_part, NodeState, option_list, item_of, casts_of, one_if}
use Rattle.flow_machine.specs.Offers.{has_place, next_tuple}
use Rattle.flow_machine.specs.Enabled.{is_numbered, is_debt}
use Rattle.flow_machine.specs.Reservations.{count_where}
use Rattle.flow_machine.specs.Bodies.{items_numbered}
use Rattle.flow_machine.specs.After.{queue_up, part_after_arrival, part_after_landing, part_after_give, part_after_refuse, part_after_hold, part_after_take, part_after_free, part_with_hold, part_without_debt, part_without_hold, unless_held, part_after_act, part_after_cancel, part_after_start, with_promotion_of, part_after_end, part_after_back, part_after_form, part_after_split, part_after_shut, numbers_of, end_after, part_after, after}
use Rattle.flow_laws.proofs.Names.{all-append, all-drop_first, all-rest}
use Rattle.flow_progress.proofs.Once.{Once, cap}

module _ (q : Item → Bool) (i : ℕ) where
  -- whether the item has another number, or passes the test
  abbrev pub fits : Item → Bool
  fits x = not (is_numbered i x) || q x

  abbrev pub all_fit : List Item → Bool
  all_fit xs = list_all fits xs

  -- of the items that wait for a body, are ready or run, those of the number pass the test
  abbrev pub Fit : Part → Type 0
  Fit (body_part w) = (all_fit w.waiting ≡ true) × (all_fit w.ready ≡ true) × (all_fit w.running ≡ true)
  Fit p = Unit {0}

  fits-new : (n made tag : ℕ) (val : Val) → i < made → fits (item_of n made tag val) ≡ true
  fits-new n made tag val lt = by_same (eqb made i) refl
    where
      by_same : (b : Bool) → eqb made i ≡ b → (not b || q (item_of n made tag val)) ≡ true
      by_same true e = let same : made ≡ i = eqb-true made i e in absurd (omega (arith, same, lt))
      by_same false e = refl

  fit-one : (x : Item) → fits x ≡ true → all_fit (x ∷ []) ≡ true
  fit-one x h = both_true h refl

  fit-queued : (limit : Option ℕ) (x : Item) (w : BodyState) → Fit (body_part w) → fits x ≡ true → Fit (body_part (queue_up limit x w))
  fit-queued limit x w h t = by_place (has_place limit w)
    where
      by_place : (b : Bool) → Fit (body_part (cond b (record w { ready = w.ready ++ x ∷ [] }) (record w { waiting = w.waiting ++ x ∷ [] })))
      by_place true = (h.0, all-append fits w.ready (x ∷ []) h.1 (fit-one x t), h.2)
      by_place false = (all-append fits w.waiting (x ∷ []) h.0 (fit-one x t), h.1, h.2)

  fit-arrived : (place : Place) (push : List ℕ) (p : Part) (port made tag : ℕ) (val : Val) → i < made → Fit p → Fit (part_after_arrival place push p port (item_of place.node made tag val))
  fit-arrived place push (body_part w) port made tag val lt h = fit-queued (limit_of place.kind) (item_of place.node made tag val) w h (fits-new place.node made tag val lt)
  fit-arrived place push p port made tag val lt h = tt

  fit-landed : (place : Place) (s : NodeState) (port tag : ℕ) (val : Val) (land : Land) → i < s.made → Fit s.part → Fit (part_after_landing place s port tag val land)
  fit-landed place s port tag val L.Lost lt h = h
  fit-landed place s port tag val land lt h = fit-arrived place s.push s.part port s.made tag val lt h

  fit-given : (k : Rattle.flow_shape.specs.declared.Kind.Kind) (p : Part) (x j : ℕ) → Fit p → Fit (part_after_give k p x j)
  fit-given k (body_part w) x j h = h
  fit-given k p x j h = tt

  fit-refused : (b : Bool) (p : Part) (x : ℕ) → Fit p → Fit (part_after_refuse b p x)
  fit-refused b (body_part w) x h = h
  fit-refused b p x h = tt

  fit-reserved : (p : Part) (x j : ℕ) → Fit p → Fit (part_after_hold p x j)
  fit-reserved (body_part w) x j h = h
  fit-reserved p x j h = tt

  fit-taken : (k : Rattle.flow_shape.specs.declared.Kind.Kind) (p : Part) (x j : ℕ) → Fit p → Fit (part_after_take k p x j)
  fit-taken k (body_part w) x j h = h
  fit-taken k p x j h = tt

  fit-freed : (b c : Bool) (p : Part) (x j : ℕ) → Fit p → Fit (part_after_free b c p x j)
  fit-freed b c (body_part w) x j h = h
  fit-freed b c p x j h = tt

  fit-holding : (place : Place) (s : NodeState) (p : Part) (x port : ℕ) (j : Item) → Fit p → Fit (part_with_hold place s p x port j)
  fit-holding place s (body_part w) x port j h = h
  fit-holding place s p x port j h = tt

  fit-paid : (p : Part) (x j : ℕ) → Fit p → Fit (part_without_debt p x j)
  fit-paid (body_part w) x j h = h
  fit-paid p x j h = tt

  fit-given_up : (p : Part) (x j : ℕ) → Fit p → Fit (part_without_hold p x j)
  fit-given_up (reserve_part r) x j h = by_debt (list_any (is_debt x j) r.debts)
    where
      by_debt : (b : Bool) → Fit (cond b (part_without_debt (reserve_part r) x j) (reserve_part record r { held = Rattle.std.specs.Prelude.map (unless_held x j) r.held }))
      by_debt true = tt
      by_debt false = tt
  fit-given_up p x j h = fit-paid p x j h

  fit-acted : (p : Part) → Fit p → Fit (part_after_act p)
  fit-acted (body_part w) h = h
  fit-acted p h = tt

  fit-cancelled : (p : Part) → Fit p → Fit (part_after_cancel p)
  fit-cancelled (body_part w) h = (refl, refl, h.2)
  fit-cancelled p h = tt

  fit-moved : (ready running : List Item) → all_fit ready ≡ true → all_fit running ≡ true → all_fit (running ++ option_list (first ready)) ≡ true
  fit-moved [] running h r = all-append fits running [] r refl
  fit-moved (x ∷ xs) running h r = all-append fits running (x ∷ []) r (fit-one x (and_left (fits x) (all_fit xs) h))

  fit-started : (p : Part) → Fit p → Fit (part_after_start p)
  fit-started (body_part w) h = (h.0, all-rest fits w.ready h.1, fit-moved w.ready w.running h.1 h.2)
  fit-started p h = tt

  fit-promoted : (l : Option ℕ) (is : List Item) (w : BodyState) → w.waiting ≡ is → Fit (body_part w) → Fit (body_part (with_promotion_of is l w))
  fit-promoted l [] w e h = h
  fit-promoted l (x ∷ is) w e h = by_place (has_place l w)
    where
      all : all_fit (x ∷ is) ≡ true
      all = ap all_fit (sym e) ∙ h.0

      by_place : (b : Bool) → Fit (body_part (cond b (record w { waiting = is; ready = w.ready ++ x ∷ [] }) w))
      by_place true = (and_right (fits x) (all_fit is) all, all-append fits w.ready (x ∷ []) h.1 (fit-one x (and_left (fits x) (all_fit is) all)), h.2)
      by_place false = h

  fit-ended : (place : Place) (p : Part) (j number : ℕ) (outs : List Msg) → Fit p → Fit (part_after_end place p j number outs)
  fit-ended place (body_part w) j number' outs h =
      let v : BodyState = record w {
        running = drop_first (is_numbered j) w.running;
        tickets = cond (is_async place.kind) (w.tickets ++ option_list (Rattle.std.specs.List.find (is_numbered j) w.running)) w.tickets;
        outbox = w.outbox ++ casts_of place.node number' outs;
      } in
      fit-promoted (limit_of place.kind) w.waiting v refl (h.0, h.1, all-drop_first fits (is_numbered j) w.running h.2)
  fit-ended place p j number' outs h = tt

  fit-back : (place : Place) (p : Part) (j number : ℕ) (outs : List Msg) → Fit p → Fit (part_after_back place p j number outs)
  fit-back place (body_part w) j number' outs h = h
  fit-back place p j number' outs h = tt

  fit-formed : (place : Place) (number : ℕ) (p : Part) (o : Option (List Item)) → Fit p → Fit (part_after_form place number p o)
  fit-formed place number' (body_part w) o h = h
  fit-formed place number' (join_part j) None h = tt
  fit-formed place number' (join_part j) (Some parts) h = tt
  fit-formed place number' (reserve_part r) None h = tt
  fit-formed place number' (reserve_part r) (Some parts) h = tt
  fit-formed place number' p o h = tt

  fit-split : (place : Place) (number : ℕ) (p : Part) (outs : List Msg) → Fit p → Fit (part_after_split place number p outs)
  fit-split place number' (body_part w) outs h = h
  fit-split place number' p outs h = tt

  fit-shut : (p : Part) (z : Rattle.flow_item.specs.declared.event.Ended.Ended) → Fit p → Fit (part_after_shut p z)
  fit-shut (body_part w) z h = h
  fit-shut p z h = tt

  either-end : (place : Place) (l : Link) (from to : Part) → Fit from → Fit to → Fit (end_after place l from to)
  either-end place l from to f t = by_end (eqb l.from place.node)
    where
      by_end : (b : Bool) → Fit (cond b from to)
      by_end true = f
      by_end false = t

  fit-after : (place : Place) (s : NodeState) (e : Event) → i < s.made → Fit s.part → Fit (part_after place s e)
  fit-after place s (E.Put c m port tag val (Accepted number land)) lt h = fit-landed place s port tag val land lt h
  fit-after place s (E.Put c m port tag val (Refused cause)) lt h = h
  fit-after place s (E.Act c m) lt h = fit-acted s.part h
  fit-after place s (E.Leave c) lt h = h
  fit-after place s (E.Cancel c m dropped) lt h = fit-cancelled s.part h
  fit-after place s (E.Give l j number land) lt h =
      either-end place l (part_after_give place.kind s.part l.edge j.id.no) (part_after_landing place s l.port j.tag j.val land) (fit-given place.kind s.part l.edge j.id.no h) (fit-landed place s l.port j.tag j.val land lt h)
  fit-after place s (E.Refuse l j) lt h = either-end place l (part_after_refuse (over place l edge_switches) s.part l.edge) s.part (fit-refused (over place l edge_switches) s.part l.edge h) h
  fit-after place s (E.None l) lt h = h
  fit-after place s (E.Hold l j number) lt h =
      either-end place l (part_after_hold s.part l.edge j.id.no) (part_with_hold place s s.part l.edge l.port j) (fit-reserved s.part l.edge j.id.no h) (fit-holding place s s.part l.edge l.port j h)
  fit-after place s (E.Take l j) lt h = either-end place l (part_after_take place.kind s.part l.edge j) (part_without_debt s.part l.edge j) (fit-taken place.kind s.part l.edge j h) (fit-paid s.part l.edge j h)
  fit-after place s (E.Free l j) lt h =
      either-end place l (part_after_free (over place l edge_switches) (over place l to_limits) s.part l.edge j) (part_without_hold s.part l.edge j)
      (fit-freed (over place l edge_switches) (over place l to_limits) s.part l.edge j h) (fit-given_up s.part l.edge j h)
  fit-after place s (E.Start w m j) lt h = fit-started s.part h
  fit-after place s (E.End w m j number outs) lt h = fit-ended place s.part j number outs h
  fit-after place s (E.Back w m j number outs) lt h = fit-back place s.part j number outs h
  fit-after place s (E.Form m number parts) lt h = fit-formed place number s.part (next_tuple place s.part) h
  fit-after place s (E.Split m j number outs) lt h = fit-split place number s.part outs h
  fit-after place s (E.Shut m j ended) lt h = fit-shut s.part ended h
  fit-after place s (E.Idle m) lt h = h

  pub fit-replayed : (place : Place) (s : NodeState) (es : List Event) → i < s.made → Fit s.part → Fit (replay (after place) s es).part
  fit-replayed place s [] lt h = h
  fit-replayed place s (e ∷ es) lt h = fit-replayed place (after place s e) es (let more : i < s.made + numbers_of place e = omega (arith, lt) in more) (fit-after place s e lt h)

  -- of the items that run, those of the number pass the test
  pub fit-running : (xs : List Item) → all_fit xs ≡ true → list_all q (items_numbered i xs) ≡ true
  fit-running [] h = refl
  fit-running (x ∷ xs) h = by_number (eqb x.id.no i) refl (fit-running xs (and_right (fits x) (all_fit xs) h))
    where
      by_number : (b : Bool) → eqb x.id.no i ≡ b → list_all q (items_numbered i xs) ≡ true → list_all q (cond b (x ∷ items_numbered i xs) (items_numbered i xs)) ≡ true
      by_number true e r =
          let here : q x ≡ true = ap (λ b. not b || q x) (sym e) ∙ and_left (fits x) (all_fit xs) h in
          both_true here r
      by_number false e r = r

  none-fit : (xs : List Item) → count_where (is_numbered i) xs ≡ 0 → all_fit xs ≡ true
  none-fit [] h = refl
  none-fit (x ∷ xs) h = by_number (eqb x.id.no i) refl h (none-fit xs)
    where
      by_number : (b : Bool) → eqb x.id.no i ≡ b → cond b (suc (count_where (is_numbered i) xs)) (count_where (is_numbered i) xs) ≡ 0 → (count_where (is_numbered i) xs ≡ 0 → all_fit xs ≡ true)
          → all_fit (x ∷ xs) ≡ true
      by_number true e c r = let never : ⊥ = omega (arith, c) in absurd never
      by_number false e c r = both_true (ap (λ b. not b || q x) e) (r c)

  one-fits : (x : Item) → q x ≡ true → fits x ≡ true
  one-fits x h = by_number (eqb x.id.no i)
    where
      by_number : (b : Bool) → (not b || q x) ≡ true
      by_number true = h
      by_number false = refl

  cap-most : (made : ℕ) → cap made i ≤ 1
  cap-most made = by_below (ltb i made)
    where
      by_below : (b : Bool) → one_if b ≤ 1
      by_below true = omega arith
      by_below false = omega arith

  below-made : (made : ℕ) → 1 ≤ cap made i → i < made
  below-made made h = by_below (ltb i made) refl h
    where
      by_below : (b : Bool) → ltb i made ≡ b → 1 ≤ one_if b → i < made
      by_below true e c = ltb-true i made e
      by_below false e c = let never : ⊥ = omega (arith, c) in absurd never

  -- the first ready item is the one of its number
  pub fit-first : (made : ℕ) (w : BodyState) (x : Item) → first w.ready ≡ Some x → is_numbered i x ≡ true → Once made (body_part w) → q x ≡ true → Fit (body_part w) × (i < made)
  fit-first made w x f n o h = by_ready w.ready refl
    where
      by_ready : (ready : List Item) → w.ready ≡ ready → Fit (body_part w) × (i < made)
      by_ready [] e = let never : ⊥ = (let clash : (let z : Option Item = None in z) ≡ Some x = ap first (sym e) ∙ f in cc) in absurd never
      by_ready (y ∷ ys) e =
          let same : y ≡ x = (let h : Some y ≡ Some x = ap first (sym e) ∙ f in cc) in
          let counted : count_where (is_numbered i) w.ready ≡ suc (count_where (is_numbered i) ys) =
          ap (count_where (is_numbered i)) e ∙ ap (λ (b : Bool). cond b (suc (count_where (is_numbered i) ys)) (count_where (is_numbered i) ys)) (ap (is_numbered i) same ∙ n) in
          let all = o i in
          let few = cap-most made in
          let waiting : count_where (is_numbered i) w.waiting ≡ 0 = omega (arith, all, few, counted) in
          let running : count_where (is_numbered i) w.running ≡ 0 = omega (arith, all, few, counted) in
          let others : count_where (is_numbered i) ys ≡ 0 = omega (arith, all, few, counted) in
          let ready : all_fit w.ready ≡ true = ap all_fit e ∙ both_true (one-fits y (ap q same ∙ h)) (none-fit ys others) in
          ((none-fit w.waiting waiting, ready, none-fit w.running running), below-made made (omega (arith, all, counted)))
