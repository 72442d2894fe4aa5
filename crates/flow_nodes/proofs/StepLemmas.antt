-- An event applied at both of its ends, and every other node as it was.
use Rattle.std.proofs.Common.{◌≡◌, ℕ, zero, suc, ◌<◌, Bool, true, false, cond, ◌||◌, eqb, Option, Some, None, List, [], ◌∷◌, length, set, map, refl, sym, ap, ◌∙◌, arith, eq-eqb}
use Rattle.std.specs.Prelude.{slice_get, IsSome}
use Rattle.std.specs.Option.{option_map}
use Rattle.std.proofs.lemmas.Option.{same_Some}
use Rattle.std.proofs.Math.Dec.{eqb-suc-suc, eqb-zero-suc, eqb-suc-zero}
use Rattle.std.proofs.lemmas.List.{length-set}
use Rattle.std.proofs.lemmas.Bool.{eqb-true, eqb-false}
use Rattle.flow_item.specs.declared.event.Event.{Event}
use Rattle.flow_item.specs.declared.event.Event.TheVariants as E
use Rattle.flow_item.specs.declared.event.Link.{Link}
use Rattle.flow_item.specs.declared.event.Party.{Party}
use Rattle.flow_item.specs.declared.event.Party.TheVariants.{Node, Caller, Worker}
use Rattle.flow_item.specs.declared.event.Parties.{Parties}
use Rattle.flow_item.specs.Lists.{change_at}
use Rattle.flow_item.specs.Events.{parties_of, both, ends}
use Rattle.flow_item.specs.Legal.{takes_part, is_second}
use Rattle.flow_machine.specs.State.{PlacedNode}
use Rattle.flow_machine.specs.After.{link_of}
use Rattle.flow_node.specs.Readied.{Readied, is_from, is_loop}
use Rattle.flow_nodes.specs.Stepping.{node_of, stepped_at, all_stepped, MayStep, ChangesAt, IsPreparedAt, MayStepAt, same_node, after_event, is_node, CanApply}
use Rattle.flow_nodes.proofs.ListLemmas.{get-set-same, get-set-other, same-by-get, get-map_places, same-nodes}

-- ---- one place changed

pub others-stay : {old new : List Readied} {at : ℕ} {f : PlacedNode → PlacedNode} (k : ℕ) → ChangesAt old new at f → (at ≡ k → ⊥) → slice_get new k ≡ slice_get old k
others-stay {old} {new} {at} k c apart = rw (c.list) (get-set-other old at k c.now apart)

-- a node that is made ready may take part as before
pub may-stay : {old new : List Readied} {at : ℕ} (k : ℕ) (e : Event) → ChangesAt old new at same_node → MayStepAt old k e → MayStepAt new k e
may-stay {old} {new} {at} k e c may q h = by_place (eqb at k) refl
  where
    by_place : (b : Bool) → eqb at k ≡ b → MayStep k q.node e
    by_place true here =
        let same : at ≡ k = eqb-true _ _ here in
        let now : slice_get new at ≡ Some c.now = rw (c.list) (get-set-same old at c.now c.was c.before) in
        let is : c.now ≡ q = same_Some _ _ (sym now ∙ (rw same h)) in
        let m : MayStep k c.was.node e = may c.was (rw (← same) c.before) in
        let node : c.was.node ≡ q.node = sym c.node ∙ ap node_of is in
        rw node at m
    by_place false away = may q (sym (others-stay k c (eqb-false _ _ away)) ∙ h)

pub nodes-stay : {old new : List Readied} {at : ℕ} → ChangesAt old new at same_node → map node_of new ≡ map node_of old
nodes-stay {old} {new} {at} c = rw (c.list) (same-nodes old at c.now c.was c.before c.node)

-- the nodes with the one at the place changed
pub nodes-change : {old new : List Readied} {at : ℕ} {f : PlacedNode → PlacedNode} → ChangesAt old new at f → map node_of new ≡ change_at f at (map node_of old)
nodes-change {old} {new} {at} {f} c = rw (c.list) (changed old at c.now c.was c.before c.node)
  where
    changed : (xs : List Readied) (i : ℕ) (x y : Readied) → slice_get xs i ≡ Some y → x.node ≡ f y.node → map node_of (set xs i x) ≡ change_at f i (map node_of xs)
    changed [] i x y h e = refl
    changed (z ∷ xs) zero x y h e = let same : z ≡ y = cc in rw (same, e)
    changed (z ∷ xs) (suc i) x y h e = let rest = changed xs i x y h e in rw rest

-- ---- all nodes stepped

get-change_at : {X : Type 0} (f : X → X) (xs : List X) (a k : ℕ) → slice_get (change_at f a xs) k ≡ option_map (λ x. cond (eqb a k) (f x) x) (slice_get xs k)
get-change_at f [] a k = refl
get-change_at f (x ∷ xs) zero zero = refl
get-change_at f (x ∷ xs) zero (suc k) = rw (eqb-zero-suc k) (by_rest (slice_get xs k))
  where
    by_rest : {X : Type 0} (o : Option X) → o ≡ option_map (λ x. x) o
    by_rest None = refl
    by_rest (Some x) = refl
get-change_at f (x ∷ xs) (suc a) zero = rw (eqb-suc-zero a)
get-change_at f (x ∷ xs) (suc a) (suc k) = rw (eqb-suc-suc a k) (get-change_at f xs a k)

-- where the places that take part are a alone, or a and b
pub step-one : (e : Event) (a : ℕ) (vs : List PlacedNode) → ((k : ℕ) → takes_part (parties_of e) (Node k) ≡ eqb a k) → change_at (after_event e) a vs ≡ all_stepped e vs
step-one e a vs party = same-by-get _ _ (λ k. get-change_at (after_event e) vs a k ∙ (rw (← party k) (sym (get-map_places (stepped_at e) 0 vs k k (omega arith)))))

pub step-two : (e : Event) (a b : ℕ) (vs : List PlacedNode) → eqb a b ≡ false → ((k : ℕ) → takes_part (parties_of e) (Node k) ≡ (eqb a k || eqb b k)) → change_at (after_event e) b (change_at (after_event e) a vs) ≡ all_stepped e vs
step-two e a b vs apart party = same-by-get _ _ (λ k.
    get-change_at (after_event e) (change_at (after_event e) a vs) b k
    ∙ ap (option_map (λ x. cond (eqb b k) (after_event e x) x)) (get-change_at (after_event e) vs a k)
    ∙ at_place k (eqb a k) (eqb b k) refl refl (slice_get vs k)
    ∙ (rw (← party k) (sym (get-map_places (stepped_at e) 0 vs k k (omega arith)))))
  where
    at_place : (k : ℕ) (p q : Bool) → eqb a k ≡ p → eqb b k ≡ q → (o : Option PlacedNode) → option_map (λ x. cond q (after_event e x) x) (option_map (λ x. cond p (after_event e x) x) o) ≡ option_map (λ x. cond (p || q) (after_event e x) x) o
    at_place k p q h g None = refl
    at_place k true true h g (Some x) =
        let same : a ≡ b = eqb-true _ _ h ∙ sym (eqb-true _ _ g) in
        let twice : eqb a b ≡ true = eq-eqb _ _ same in cc
    at_place k true false h g (Some x) = refl
    at_place k false true h g (Some x) = refl
    at_place k false false h g (Some x) = refl

-- ---- what moves between the ends

pub record BothEnds (e : Event) (a b : ℕ) : Type 0 where
  pub from : is_from a e ≡ true
  pub to : is_from b e ≡ false
  pub apart : eqb a b ≡ false
  pub over : IsSome (link_of e)

link-ends : (l : Link) (a b : ℕ) → ends l ≡ both (Node a) (Node b) → eqb l.from l.to ≡ false → (eqb l.from a ≡ true) × (eqb l.from b ≡ false) × (eqb a b ≡ false)
link-ends l a b h apart =
    let first : Node l.from ≡ Node a = ap (λ (p : Parties). p.first) h in
    let other : (ends l).second ≡ Some (Node b) = ap (λ (p : Parties). p.second) h in
    let second : ◌≡◌ {A = Option Party} (Some (Node l.to)) (Some (Node b)) = rw apart at other in
    let from : l.from ≡ a = cc in
    let to : l.to ≡ b = cc in
    (eq-eqb _ _ from, rw (← to) apart, rw (← from, ← to) apart)

pub two-ends : (e : Event) (a b : ℕ) → parties_of e ≡ both (Node a) (Node b) → is_loop e ≡ false → BothEnds e a b
two-ends (E.Give l i number land) a b h apart = let t = link-ends l a b h apart in record { from = t.0; to = t.1; apart = t.2; over = refl }
two-ends (E.Refuse l i) a b h apart = let t = link-ends l a b h apart in record { from = t.0; to = t.1; apart = t.2; over = refl }
two-ends (E.None l) a b h apart = let t = link-ends l a b h apart in record { from = t.0; to = t.1; apart = t.2; over = refl }
two-ends (E.Hold l i number) a b h apart = let t = link-ends l a b h apart in record { from = t.0; to = t.1; apart = t.2; over = refl }
two-ends (E.Take l i) a b h apart = let t = link-ends l a b h apart in record { from = t.0; to = t.1; apart = t.2; over = refl }
two-ends (E.Free l i) a b h apart = let t = link-ends l a b h apart in record { from = t.0; to = t.1; apart = t.2; over = refl }
two-ends e a b h apart = let second : (parties_of e).second ≡ Some (Node b) = ap (λ (p : Parties). p.second) h in let never : ⊥ = cc in absurd never

-- an event of one node goes over no edge
pub one-end : (e : Event) → is_loop e ≡ false → is_node (parties_of e).second ≡ false → link_of e ≡ None
one-end (E.Give l i number land) apart h = let never : true ≡ false = rw apart at h in cc
one-end (E.Refuse l i) apart h = let never : true ≡ false = rw apart at h in cc
one-end (E.None l) apart h = let never : true ≡ false = rw apart at h in cc
one-end (E.Hold l i number) apart h = let never : true ≡ false = rw apart at h in cc
one-end (E.Take l i) apart h = let never : true ≡ false = rw apart at h in cc
one-end (E.Free l i) apart h = let never : true ≡ false = rw apart at h in cc
one-end e apart h = refl

pub one-party : (p : Option Party) (k : ℕ) → is_node p ≡ false → is_second p (Node k) ≡ false
one-party None k h = refl
one-party (Some (Node n)) k h = cc
one-party (Some (Caller n)) k h = refl
one-party (Some (Worker n)) k h = refl

pub takes-first : (ps : Parties) (a : ℕ) → ps.first ≡ Node a → takes_part ps (Node a) ≡ true
takes-first ps a h = rw (h, eq-eqb a a refl)

pub takes-one : (ps : Parties) (a k : ℕ) → ps.first ≡ Node a → is_node ps.second ≡ false → takes_part ps (Node k) ≡ eqb a k
takes-one ps a k h g = rw (h, one-party ps.second k g) (or_none (eqb a k))
  where
    or_none : (b : Bool) → (b || false) ≡ b
    or_none true = refl
    or_none false = refl

pub takes-two : (ps : Parties) (a b k : ℕ) → ps ≡ both (Node a) (Node b) → takes_part ps (Node k) ≡ (eqb a k || eqb b k)
takes-two ps a b k h = rw h

-- an event may be applied as before to nodes of which one is made ready
pub can-stay : {old new : List Readied} {at : ℕ} (e : Event) → ChangesAt old new at same_node → CanApply old e → CanApply new e
can-stay {old} {new} {at} e c can = record {
  apart = can.apart;
  within = λ k party. rw (c.list, length-set old at c.now) (can.within k party);
  may = λ k party. may-stay k e c (can.may k party);
}

pub prepared-stays : {old new : List Readied} {at : ℕ} {f : PlacedNode → PlacedNode} (k : ℕ) (e : Event) → ChangesAt old new at f → (at ≡ k → ⊥) → IsPreparedAt old k e → IsPreparedAt new k e
prepared-stays k e c apart room q h = room q (sym (others-stay k c apart) ∙ h)

-- one node made ready, and stepped
pub one-stepped : {n0 n1 n2 : List Readied} (e : Event) (a : ℕ) → ChangesAt n0 n1 a same_node → ChangesAt n1 n2 a (after_event e) → ((k : ℕ) → takes_part (parties_of e) (Node k) ≡ eqb a k) → map node_of n2 ≡ all_stepped e (map node_of n0)
one-stepped {n0} {n1} {n2} e a c d party = nodes-change d ∙ ap (change_at (after_event e) a) (nodes-stay c) ∙ step-one e a (map node_of n0) party

-- two nodes made ready, and stepped
pub two-stepped : {n0 n1 n2 n3 n4 : List Readied} (e : Event) (a b : ℕ) → ChangesAt n0 n1 a same_node → ChangesAt n1 n2 b same_node → ChangesAt n2 n3 a (after_event e) → ChangesAt n3 n4 b (after_event e)
    → eqb a b ≡ false → ((k : ℕ) → takes_part (parties_of e) (Node k) ≡ (eqb a k || eqb b k)) → map node_of n4 ≡ all_stepped e (map node_of n0)
two-stepped {n0} {n1} {n2} {n3} {n4} e a b p q c d apart party =
    nodes-change d ∙ ap (change_at (after_event e) b) (nodes-change c) ∙ ap (λ vs. change_at (after_event e) b (change_at (after_event e) a vs)) (nodes-stay q ∙ nodes-stay p)
    ∙ step-two e a b (map node_of n0) apart party

-- an event that begins at no node changes none
pub none-stepped : (e : Event) (vs : List PlacedNode) → is_node (Some (parties_of e).first) ≡ false → vs ≡ all_stepped e vs
none-stepped e vs h = same-by-get _ _ (λ k. sym (get-map_places (stepped_at e) 0 vs k k (omega arith) ∙ by_member k (no_party e k h) (slice_get vs k)))
  where
    no_party : (e : Event) (k : ℕ) → is_node (Some (parties_of e).first) ≡ false → takes_part (parties_of e) (Node k) ≡ false
    no_party (E.Leave n) k h = refl
    no_party e k h = cc

    by_member : (k : ℕ) → takes_part (parties_of e) (Node k) ≡ false → (o : Option PlacedNode) → option_map (stepped_at e k) o ≡ o
    by_member k none None = refl
    by_member k none (Some x) = rw none

pub takes-second : (ps : Parties) (a b : ℕ) → ps ≡ both (Node a) (Node b) → takes_part ps (Node b) ≡ true
takes-second ps a b h = rw (h, eq-eqb b b refl) (or_true (eqb a b))
  where
    or_true : (b : Bool) → (b || true) ≡ true
    or_true true = refl
    or_true false = refl

pub can-stay-other : {old new : List Readied} {at : ℕ} {f : PlacedNode → PlacedNode} (k : ℕ) (e : Event) → ChangesAt old new at f → (at ≡ k → ⊥) → k < length old → MayStepAt old k e → (k < length new) × MayStepAt new k e
can-stay-other {old} {new} {at} k e c apart within may = (rw (c.list, length-set old at c.now) within, λ q h. may q (sym (others-stay k c apart) ∙ h))
