-- A function's part: what it offers, and what its steps leave.
use Rattle.std.proofs.Common.{◌≡◌, ℕ, zero, suc, ◌+◌, ◌<◌, ◌≤◌, Bool, true, false, not, ◌&&◌, Option, Some, None, Result, Ok, Err, OnOk, OnErr, get_or, List, [], ◌∷◌, ◌++◌, length, map, take, drop, refl, sym, ap, ◌∙◌, arith, append_assoc}
use Rattle.std.specs.Prelude.{slice_get}
use Rattle.std.proofs.lemmas.List.{append-nil, map-append, length-map}
use Rattle.std.specs.List.{find}
use Rattle.std.specs.Option.{option_map, option_or}
use Rattle.flow_item.specs.declared.item.Item.{Item}
use Rattle.flow_item.specs.declared.item.Msg.{Msg}
use Rattle.flow_item.specs.declared.event.Ended.{Ended}
use Rattle.flow_item.specs.Lists.{has, is_empty, first}
use Rattle.flow_item.proofs.Tests.{and_left, and_right, both_true}
use Rattle.flow_shape.specs.declared.Wire.{Wire}
use Rattle.flow_shape.specs.Places.{Place}
use Rattle.flow_machine.specs.State.{NodeState, body_part, casts_of, change_first, cast_give, cast_refuse}
use Rattle.flow_machine.specs.Offers.{candidates, cast_candidates, offer_end, end_of_offer, outbox_end, when}
use Rattle.flow_machine.specs.Wishes.{offer_wish}
use Rattle.flow_machine.specs.declared.Wish.{Wish}
use Rattle.flow_machine.specs.declared.Wish.TheVariants as W
use Rattle.flow_cast.specs.Casts.{RoomyCast}
use Rattle.flow_node.specs.NodeViews.{cast_item}
use Rattle.flow_node.specs.Parts.{FunctionView, cast_in, item_in, function_kind, function_part, edges_over, is_roomy, are_roomy, Adds, given_over, refused_over}
use Rattle.flow_node.specs.Kept.{place_with, state_with, is_whole, Steps}
use Rattle.flow_node.specs.declared.part.Part.TheVariants as P
use Rattle.flow_node.proofs.CastLemmas.{roomy-facts, roomy-given, roomy-refused}
use Rattle.flow_machine.specs.After.{part_after_give, part_after_refuse}
use Rattle.flow_machine.specs.OpenParts.{holds_in}
use Rattle.flow_node.specs.declared.base.Base.{Base}
use Rattle.flow_node.proofs.ListLemmas.{change_first-map, drop-at, drop-front, all-append}

-- whether the cast may meet the edge
abbrev pub may : List Wire → ℕ → RoomyCast → Bool
may outs x c = has (edges_over outs c.cast.port) x && not (has c.cast.met x)

abbrev pub offered : List Wire → ℕ → Option RoomyCast → List Item
offered outs x None = []
offered outs x (Some c) = when (may outs x c) (c.cast.item ∷ [])

abbrev pub end_over : List Wire → Option RoomyCast → Option Ended
end_over outs None = None
end_over outs (Some c) = outbox_end (edges_over outs c.cast.port) c.cast

module _ (b : Base) (f : FunctionView) where
  abbrev pub place : Place
  place = place_with b (function_kind f)

  abbrev pub state : NodeState
  state = state_with b (function_part f)

  pub candidates-are : (x : ℕ) → candidates place state x ≡ offered b.outs.items x (first f.outbox)
  candidates-are x = by_list f.outbox
    where
      by_list : (cs : List RoomyCast) → cast_candidates place x (first (map cast_in cs)) ≡ offered b.outs.items x (first cs)
      by_list [] = refl
      by_list (c ∷ cs) = refl

  pub end-is : offer_end place state ≡ end_over b.outs.items (first f.outbox)
  end-is = by_list f.outbox
    where
      by_list : (cs : List RoomyCast) → end_of_offer (λ c. outbox_end (edges_over b.outs.items c.port) c) (first (map cast_in cs)) ≡ end_over b.outs.items (first cs)
      by_list [] = refl
      by_list (c ∷ cs) = refl

  pub offered-item : (x : ℕ) (c : RoomyCast) → Some c ≡ first f.outbox → may b.outs.items x c ≡ true → Some c.cast.item ≡ first (candidates place state x)
  offered-item x c front m = let is : candidates place state x ≡ when (may b.outs.items x c) (c.cast.item ∷ []) = candidates-are x ∙ ap (offered b.outs.items x) (sym front) in rw (is, m)

  pub offered-none : (x : ℕ) (c : RoomyCast) → Some c ≡ first f.outbox → may b.outs.items x c ≡ false → None ≡ first (candidates place state x)
  offered-none x c front m = let is : candidates place state x ≡ when (may b.outs.items x c) (c.cast.item ∷ []) = candidates-are x ∙ ap (offered b.outs.items x) (sym front) in rw (is, m)

  pub nothing-offered : (x : ℕ) → None ≡ first f.outbox → candidates place state x ≡ []
  nothing-offered x front = candidates-are x ∙ ap (offered b.outs.items x) (sym front)

-- ---- offers over one edge after the other

module _ (place : Place) (s : NodeState) (xs : List ℕ) (w : Option Wish) where
  pub wish-past : (k x : ℕ) → slice_get xs k ≡ Some x → None ≡ first (candidates place s x) → offer_wish place s (drop k xs) ≡ w → offer_wish place s (drop (k + 1) xs) ≡ w
  wish-past k x at none before =
      let next : k + 1 ≡ suc k = omega arith in
      let here : offer_wish place s (x ∷ drop (suc k) xs) ≡ w = rw (drop-at xs k x at) at before in
      rw (next) (passed (first (candidates place s x)) none here)
    where
      passed : (o : Option Item) → None ≡ o → option_or (option_map (λ (i : Item). W.Offer x i.id.no) o) (offer_wish place s (drop (suc k) xs)) ≡ w → offer_wish place s (drop (suc k) xs) ≡ w
      passed None none h = h
      passed (Some i) none h = cc

  pub wish-here : (k x : ℕ) (i : Item) → slice_get xs k ≡ Some x → Some i ≡ first (candidates place s x) → offer_wish place s (drop k xs) ≡ w → Some (W.Offer x i.id.no) ≡ w
  wish-here k x i at some before =
      let here : offer_wish place s (x ∷ drop (suc k) xs) ≡ w = rw (drop-at xs k x at) at before in
      found (first (candidates place s x)) some here
    where
      found : (o : Option Item) → Some i ≡ o → option_or (option_map (λ (i : Item). W.Offer x i.id.no) o) (offer_wish place s (drop (suc k) xs)) ≡ w → Some (W.Offer x i.id.no) ≡ w
      found None some h = cc
      found (Some j) some h = let same : i ≡ j = cc in rw same h

-- ---- items of casts

pub items-are : (cs : List RoomyCast) → map cast_item (map cast_in cs) ≡ map item_in cs
items-are [] = refl
items-are (c ∷ cs) = ap (λ is. c.cast.item ∷ is) (items-are cs)

pub slice_get-take : {X : Type 0} (n k : ℕ) (xs : List X) → k < length (take n xs) → slice_get (take n xs) k ≡ slice_get xs k
slice_get-take zero k [] h = refl
slice_get-take zero k (x ∷ xs) h = absurd (omega (arith, h))
slice_get-take (suc n) k [] h = refl
slice_get-take (suc n) zero (x ∷ xs) h = refl
slice_get-take (suc n) (suc k) (x ∷ xs) h = slice_get-take n k xs (omega (arith, h))

pub find-here : (p : Item → Bool) (cs : List RoomyCast) (k : ℕ) (c : RoomyCast) → slice_get cs k ≡ Some c → p c.cast.item ≡ true → find p (map item_in (drop k cs)) ≡ Some c.cast.item
find-here p cs k c at h = rw (drop-at cs k c at, h)

pub find-past : (p : Item → Bool) (cs : List RoomyCast) (k : ℕ) (c : RoomyCast) → slice_get cs k ≡ Some c → p c.cast.item ≡ false → find p (map item_in (drop (k + 1) cs)) ≡ find p (map item_in (drop k cs))
find-past p cs k c at h =
    let next : k + 1 ≡ suc k = omega arith in
    rw (next, drop-at cs k c at, h)

-- ---- the casts of messages

-- the casts of the messages before place k stand behind the old ones
pub record Adding (outs : List Wire) (node number : ℕ) (msgs : List Msg) (k : ℕ) (old new : List RoomyCast) : Type 0 where
  pub added : List RoomyCast
  pub list : new ≡ old ++ added
  pub roomy : are_roomy outs added ≡ true
  pub left : map cast_in added ++ casts_of node (number + k) (drop k msgs) ≡ casts_of node number msgs

pub adding-none : (outs : List Wire) (node number : ℕ) (msgs : List Msg) (old : List RoomyCast) → Adding outs node number msgs 0 old old
adding-none outs node number msgs old =
    let same : number + 0 ≡ number = omega arith in
    record { added = []; list = sym (append-nil old); roomy = refl; left = rw same (drop_none msgs) }
  where
    drop_none : (ms : List Msg) → casts_of node number (drop 0 ms) ≡ casts_of node number ms
    drop_none [] = refl
    drop_none (m ∷ ms) = refl

pub adding-more : {outs : List Wire} {node number : ℕ} {msgs : List Msg} {k : ℕ} {old new : List RoomyCast} → Adding outs node number msgs k old new → (c : RoomyCast) (m : Msg) (next : List RoomyCast)
    → c.cast ∷ [] ≡ casts_of node (number + k) (m ∷ []) → is_roomy outs c ≡ true → slice_get msgs k ≡ Some m → next ≡ new ++ c ∷ [] → Adding outs node number msgs (k + 1) old next
adding-more {outs} {node} {number} {msgs} {k} {old} {new} a c m next cast room at is =
    let there : number + (k + 1) ≡ suc (number + k) = omega arith in
    let more : k + 1 ≡ suc k = omega arith in
    let before : map cast_in a.added ++ casts_of node (number + k) (m ∷ drop (suc k) msgs) ≡ casts_of node number msgs = rw (drop-at msgs k m at) at a.left in
    record {
      added = a.added ++ c ∷ [];
      list = is ∙ ap (λ cs. cs ++ c ∷ []) a.list ∙ append_assoc old a.added (c ∷ []);
      roomy = all-append (is_roomy outs) a.added (c ∷ []) a.roomy (both_true room refl);
      left = rw (there, more, map-append cast_in a.added (c ∷ []))
          (append_assoc (map cast_in a.added) (c.cast ∷ []) (casts_of node (suc (number + k)) (drop (suc k) msgs))
          ∙ ap (λ cs. map cast_in a.added ++ (cs ++ casts_of node (suc (number + k)) (drop (suc k) msgs))) cast ∙ before);
    }

-- all casts were added
pub adding-all : {outs : List Wire} {node number : ℕ} {msgs : List Msg} {k : ℕ} {old new : List RoomyCast} → Adding outs node number msgs k old new → length msgs ≤ k → map cast_in (drop (length old) new) ≡ casts_of node number msgs
adding-all {outs} {node} {number} {msgs} {k} {old} {new} a h =
    let over : casts_of node (number + k) (drop k msgs) ≡ [] = ap (casts_of node (number + k)) (past msgs k h) in
    ap (λ cs. map cast_in (drop (length old) cs)) a.list ∙ ap (map cast_in) (drop-front old a.added) ∙ sym (append-nil (map cast_in a.added)) ∙ ap (λ cs. map cast_in a.added ++ cs) (sym over) ∙ a.left
  where
    past : (ms : List Msg) (k : ℕ) → length ms ≤ k → drop k ms ≡ []
    past [] zero h = refl
    past [] (suc k) h = refl
    past (m ∷ ms) zero h = absurd (omega (arith, h))
    past (m ∷ ms) (suc k) h = past ms k (omega (arith, h))

pub adding-roomy : {outs : List Wire} {node number : ℕ} {msgs : List Msg} {k : ℕ} {old new : List RoomyCast} → Adding outs node number msgs k old new → Adds outs old new
adding-roomy a = record { added = a.added; list = a.list; roomy = a.roomy }

-- ---- an open offer

-- the cast on offer may meet the edge
pub record Open (outs : List Wire) (cs : List RoomyCast) (x : ℕ) : Type 0 where
  pub front : RoomyCast
  pub later : List RoomyCast
  pub list : cs ≡ front ∷ later
  pub over : has (edges_over outs front.cast.port) x ≡ true
  pub away : has front.cast.met x ≡ false

pub open-offer : (outs : List Wire) (cs : List RoomyCast) (x : ℕ) → is_empty (offered outs x (first cs)) ≡ false → Open outs cs x
open-offer outs [] x h = cc
open-offer outs (c ∷ cs) x h =
    let m : may outs x c ≡ true = met (may outs x c) h in
    record { front = c; later = cs; list = refl; over = and_left (has (edges_over outs c.cast.port) x) (not (has c.cast.met x)) m; away = not_true _ (and_right (has (edges_over outs c.cast.port) x) (not (has c.cast.met x)) m) }
  where
    met : (b : Bool) → is_empty (when b (c.cast.item ∷ [])) ≡ false → b ≡ true
    met true h = refl
    met false h = cc

    not_true : (b : Bool) → not b ≡ true → b ≡ false
    not_true true h = cc
    not_true false h = refl

-- the first of a list that is cut later on
pub front-same : {X : Type 0} (n : ℕ) (items : List X) (front : X) (later : List X) (d : X) → take n items ≡ front ∷ later → d ≡ get_or items 0 d → d ≡ front
front-same zero [] front later d h g = cc
front-same zero (x ∷ xs) front later d h g = cc
front-same (suc n) [] front later d h g = cc
front-same (suc n) (x ∷ xs) front later d h g = let same : x ≡ front = cc in g ∙ same

pub front-roomy : (outs : List Wire) (cs : List RoomyCast) (x : ℕ) → are_roomy outs cs ≡ true → (o : Open outs cs x) → is_roomy outs o.front ≡ true
front-roomy outs cs x h o = let roomy : are_roomy outs (o.front ∷ o.later) ≡ true = rw (o.list) at h in and_left (is_roomy outs o.front) (are_roomy outs o.later) roomy

change-roomy : (outs : List Wire) (cs : List RoomyCast) (x : ℕ) (g : RoomyCast → RoomyCast) → are_roomy outs cs ≡ true → (o : Open outs cs x) → is_roomy outs (g o.front) ≡ true → are_roomy outs (change_first g cs) ≡ true
change-roomy outs cs x g h o changed =
    let roomy : are_roomy outs (o.front ∷ o.later) ≡ true = rw (o.list) at h in
    rw (o.list) (both_true changed (and_right (is_roomy outs o.front) (are_roomy outs o.later) roomy))

module _ (b : Base) (f f' : FunctionView) (x : ℕ) (whole : is_whole b.outs.items (P.Function f) ≡ true) (open_for : is_empty (candidates (place b f) (state b f) x) ≡ false) where
  opened : Open b.outs.items f.outbox x
  opened = open-offer b.outs.items f.outbox x (sym (ap is_empty (candidates-are b f x)) ∙ open_for)

  kept-outbox : are_roomy b.outs.items f.outbox ≡ true
  kept-outbox = and_left (are_roomy b.outs.items f.outbox) (are_roomy b.outs.items f.coming) whole

  kept-coming : are_roomy b.outs.items f.coming ≡ true
  kept-coming = and_right (are_roomy b.outs.items f.outbox) (are_roomy b.outs.items f.coming) whole

  pub function-given : (i : ℕ) → f' ≡ record f { outbox = change_first (given_over x) f.outbox } → Steps b.outs.items (P.Function f) (P.Function f') (part_after_give (function_kind f) (function_part f) x i) f.coming
  function-given i is = record {
    kind = ap function_kind is;
    is = ap function_part is ∙ ap (λ cs. body_part record f.work { outbox = cs }) (change_first-map cast_in (given_over x) (cast_give x) (λ c. refl) f.outbox);
    casts = ap (λ (v : FunctionView). v.coming) is;
    whole = λ w. ap (λ (v : FunctionView). is_whole b.outs.items (P.Function v)) is ∙ both_true (change-roomy b.outs.items f.outbox x (given_over x) kept-outbox opened (roomy-given b.outs.items opened.front x (front-roomy b.outs.items f.outbox x kept-outbox opened) opened.over opened.away)) kept-coming;
  }

  pub function-refused : f' ≡ record f { outbox = change_first (refused_over x) f.outbox } → Steps b.outs.items (P.Function f) (P.Function f') (part_after_refuse false (function_part f) x) f.coming
  function-refused is = record {
    kind = ap function_kind is;
    is = ap function_part is ∙ ap (λ cs. body_part record f.work { outbox = cs }) (change_first-map cast_in (refused_over x) (cast_refuse false x) (λ c. refl) f.outbox);
    casts = ap (λ (v : FunctionView). v.coming) is;
    whole = λ w. ap (λ (v : FunctionView). is_whole b.outs.items (P.Function v)) is ∙ both_true (change-roomy b.outs.items f.outbox x (refused_over x) kept-outbox opened (roomy-refused b.outs.items opened.front x (front-roomy b.outs.items f.outbox x kept-outbox opened) opened.over opened.away)) kept-coming;
  }

-- no cast is held
pub roomy-free : (outs : List Wire) (cs : List RoomyCast) → are_roomy outs cs ≡ true → holds_in (map cast_in cs) ≡ 0
roomy-free outs [] h = refl
roomy-free outs (c ∷ cs) h =
    let later = roomy-free outs cs (and_right (is_roomy outs c) _ h) in
    let none = no_holds c.cast.holds (roomy-facts outs c (and_left (is_roomy outs c) (are_roomy outs cs) h)).free in
    omega (arith, later, none)
  where
    no_holds : (xs : List ℕ) → is_empty xs ≡ true → length xs ≡ 0
    no_holds [] h = refl
    no_holds (x ∷ xs) h = cc

pub few-casts : {X E : Type 0} (r : Result X E) (cs : List RoomyCast) (n k : ℕ) (ms : List Msg) → OnOk r (map cast_in cs ≡ casts_of n k ms) → OnErr r (cs ≡ []) → length cs ≤ length ms
few-casts (Ok v) cs n k ms h g =
    let long = sym (length-map cs cast_in) ∙ ap length h ∙ length-casts n k ms in
    omega (arith, long)
  where
    length-casts : (n number : ℕ) (outs : List Msg) → length (casts_of n number outs) ≡ length outs
    length-casts n number [] = refl
    length-casts n number (m ∷ ms) = ap suc (length-casts n (suc number) ms)
few-casts (Err e) cs n k ms h g = rw g (omega arith)
