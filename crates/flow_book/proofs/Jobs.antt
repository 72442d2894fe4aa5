-- The job of a body that may start, the end of one that runs, and tickets that come back.
use Rattle.std.proofs.Common.{◌≡◌, ◌≢◌, ℕ, ◌<◌, ◌≤◌, Bool, true, false, cond, eqb, ltb, Option, Some, None, List, [], ◌∷◌, ◌++◌, refl, sym, ap, ◌∙◌, arith}
use Rattle.std.specs.Prelude.{slice_get, is_none}
use Rattle.std.proofs.lemmas.Bool.{eqb-true, ltb-true}
use Rattle.std.proofs.lemmas.List.{same_from_push}
use Rattle.std.specs.List.{list_any, list_all}
use Rattle.flow_item.specs.declared.item.Item.{Item}
use Rattle.flow_item.specs.declared.event.Event.{Event}
use Rattle.flow_item.specs.declared.event.Party.{Party}
use Rattle.flow_item.specs.declared.event.Parties.{Parties}
use Rattle.flow_item.specs.Events.{same_party, parties_of, births_of, both}
use Rattle.flow_item.specs.Legal.{takes_part, projection}
use Rattle.flow_item.specs.Lists.{first}
use Rattle.flow_item.proofs.Tests.{and_left, and_right}
use Rattle.flow_item.proofs.Journals.{projection-append}
use Rattle.flow_shape.specs.declared.Kind.{Kind}
use Rattle.flow_shape.specs.declared.Kind.TheVariants as K
use Rattle.flow_shape.specs.Kinds.{is_body}
use Rattle.flow_machine.specs.State.{BodyState, Part, store_part, keeper_part, body_part, input_part, limiter_part, join_part, reserve_part, broadcast_part, split_part, continue_part, NodeState, PlacedNode}
use Rattle.flow_machine.specs.Enabled.{is_numbered, first_is, is_input_ready, may_start}
use Rattle.flow_machine.proofs.Frames.{Fits}
use Rattle.flow_node.specs.NodeViews.{first_ready as ready_of}
use Rattle.flow_line.specs.Values.{Sitting, IsMadeByTwo}
use Rattle.flow_line.proofs.Committed.{same_self}
use Rattle.flow_book.specs.declared.machine.Run.{Run}
use Rattle.flow_book.specs.Answers as a
use Rattle.flow_book.specs.Jobs as j
use Rattle.flow_book.proofs.Sizes.{size_of}

-- ---- the event is the last that was seen

with-last : (p : Party) (log : List Event) (e : Event) → takes_part (parties_of e) p ≡ true → projection parties_of p (log ++ e ∷ []) ≡ projection parties_of p log ++ e ∷ []
with-last p log e t = projection-append parties_of p log (e ∷ []) ∙ ap (λ b. projection parties_of p log ++ cond b (e ∷ []) []) t

pub placed-by_two : (s c s' c' : Sitting Event Run) (e : Event) → IsMadeByTwo births_of s c e s' c' → parties_of e ≡ both s.party c.party
    → s'.own ≡ projection parties_of s'.party s'.seen → a.IsPlaced s e c'
placed-by_two s c s' c' e m pair own =
    let t : takes_part (parties_of e) s.party ≡ true = ap (λ (ps : Parties). takes_part ps s.party) pair ∙ or_first (same_party s.party s.party) (same_party c.party s.party) (same_self s.party) in
    let whole : s.own ++ e ∷ [] ≡ projection parties_of s.party m.0 ++ e ∷ [] =
    sym (ap (λ (x : Sitting Event Run). x.own) m.3) ∙ (own ∙ ((λ i. projection parties_of ((ap (λ (x : Sitting Event Run). x.party) m.3) i) ((ap (λ (x : Sitting Event Run). x.seen) m.3) i)) ∙ with-last s.party m.0 e t)) in
    (m.0, ap (λ (x : Sitting Event Run). x.seen) m.4, (same_from_push s.own (projection parties_of s.party m.0) e e whole).0)
  where
    or_first : (b c : Bool) → b ≡ true → Rattle.std.specs.Prelude.◌||◌ b c ≡ true
    or_first true c h = refl
    or_first false c h = cc

-- ---- the item with which a body starts

first-ready : (i : ℕ) (xs : List Item) → first_is i xs ≡ true → (r : Item) × (first xs ≡ Some r) × (is_numbered i r ≡ true)
first-ready i [] h = cc
first-ready i (x ∷ xs) h = (x, refl, h)

-- what is told of the item
pub record Starts (k : Kind) (p : Part) (n i : ℕ) : Type 0 where
  pub body : is_body k ≡ true
  pub item : cond (j.has_turns k) (Some (j.turn_item n i)) (ready_of p) ≡ j.next_item n p
  pub there : j.has_turns k ≡ false → ready_of p ≢ None
  pub turn : j.has_turns k ≡ true → i ≤ size_of p

body-kind : (k : Kind) → Rattle.flow_machine.proofs.Frames.frame_of (Rattle.flow_machine.specs.State.start_part k) ≡ Rattle.flow_machine.proofs.Frames.a_body → (is_body k ≡ true) × (j.has_turns k ≡ false)
body-kind (K.Function reject limit body arg) h = (refl, refl)
body-kind (K.Multi reject limit body arg outs) h = (refl, refl)
body-kind (K.Async reject limit arg) h = (refl, refl)
body-kind k h = cc

input-kind : (k : Kind) → Rattle.flow_machine.proofs.Frames.frame_of (Rattle.flow_machine.specs.State.start_part k) ≡ Rattle.flow_machine.proofs.Frames.an_input → (is_body k ≡ true) × (j.has_turns k ≡ true)
input-kind (K.Input body arg) h = (refl, refl)
input-kind k h = cc

continue-kind : (k : Kind) → Rattle.flow_machine.proofs.Frames.frame_of (Rattle.flow_machine.specs.State.start_part k) ≡ Rattle.flow_machine.proofs.Frames.a_continue → (is_body k ≡ true) × (j.has_turns k ≡ true)
continue-kind (K.Continue body arg) h = (refl, refl)
continue-kind k h = cc

true-false : (b : Bool) → b ≡ true → b ≡ false → ⊥
true-false true p q = cc
true-false false p q = cc

pub starts : (k : Kind) (p : Part) (n i : ℕ) → Fits k p → may_start p i ≡ true → Starts k p n i
starts k (body_part w) n i fits may =
    let kd = body-kind k (sym fits) in
    let f = first-ready i w.ready may in
    record {
      body = kd.0;
      item = ap (λ b. cond b (Some (j.turn_item n i)) (ready_of (body_part w))) kd.1;
      there = λ off gone. let clash : (let z : Option Item = None in z) ≡ Some f.0 = sym gone ∙ f.1 in cc;
      turn = λ on. absurd (true-false (j.has_turns k) on kd.1);
    }
starts k (input_part f) n i fits may =
    let kd = input-kind k (sym fits) in
    let turn : i ≡ f.turn = eqb-true i f.turn (and_right (is_input_ready f) (eqb i f.turn) may) in
    record {
      body = kd.0;
      item = ap (λ b. cond b (Some (j.turn_item n i)) (ready_of (input_part f))) kd.1 ∙ ap (λ t. Some (j.turn_item n t)) turn;
      there = λ off gone. true-false (j.has_turns k) kd.1 off;
      turn = λ on. omega (arith, turn);
    }
starts k (continue_part c) n i fits may =
    let kd = continue-kind k (sym fits) in
    let turn : i ≡ c.turn = eqb-true i c.turn (and_right (ltb c.turn c.goes) (eqb i c.turn) may) in
    let below : c.turn < c.goes = ltb-true c.turn c.goes (and_left (ltb c.turn c.goes) (eqb i c.turn) may) in
    record {
      body = kd.0;
      item = ap (λ b. cond b (Some (j.turn_item n i)) (ready_of (continue_part c))) kd.1 ∙ ap (λ t. Some (j.turn_item n t)) turn;
      there = λ off gone. true-false (j.has_turns k) kd.1 off;
      turn = λ on. omega (arith, turn, below);
    }
starts k p n i fits may = cc

-- the number of that item
pub next-number : (n : ℕ) (p : Part) (i : ℕ) (x : Item) → may_start p i ≡ true → j.next_item n p ≡ Some x → x.id.no ≡ i
next-number n (body_part w) i x may h =
    let f = first-ready i w.ready may in
    let same : f.0 ≡ x = some-same (sym f.1 ∙ h) in
    ap (λ (y : Item). y.id.no) (sym same) ∙ eqb-true f.0.id.no i f.2
  where
    some-same : {X : Type 0} {x y : X} → Some x ≡ Some y → x ≡ y
    some-same h = cc
next-number n (input_part f) i x may h =
    let turn : i ≡ f.turn = eqb-true i f.turn (and_right (is_input_ready f) (eqb i f.turn) may) in
    let same : j.turn_item n f.turn ≡ x = cc in
    ap (λ (y : Item). y.id.no) (sym same) ∙ sym turn
next-number n (continue_part c) i x may h =
    let turn : i ≡ c.turn = eqb-true i c.turn (and_right (ltb c.turn c.goes) (eqb i c.turn) may) in
    let same : j.turn_item n c.turn ≡ x = cc in
    ap (λ (y : Item). y.id.no) (sym same) ∙ sym turn
next-number n p i x may h = cc
