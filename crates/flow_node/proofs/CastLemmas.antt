-- The edges of a port, and a cast's room for them.
use Rattle.std.proofs.Common.{◌≡◌, ℕ, suc, ◌<◌, ◌≤◌, Bool, true, false, not, ◌&&◌, ◌||◌, cond, eqb, leb, List, [], ◌∷◌, ◌++◌, length, map, filter, refl, sym, ap, ◌∙◌, arith, eq-eqb}
use Rattle.std.specs.List.{list_all, list_any}
use Rattle.std.proofs.lemmas.Bool.{eqb-true, leb-true}
use Rattle.flow_item.specs.Lists.{has, without, is_empty}
use Rattle.flow_item.proofs.Tests.{and_left, and_right, both_true, or_left}
use Rattle.flow_item.proofs.Places.{has-without-other}
use Rattle.flow_shape.specs.declared.Wire.{Wire}
use Rattle.flow_shape.specs.Places.{edge_number}
use Rattle.flow_machine.specs.Offers.{all_in}
use Rattle.flow_cast.specs.Casts.{RoomyCast, is_distinct}
use Rattle.flow_cast.proofs.Edges.{distinct-append, length-without-has}
use Rattle.flow_node.specs.Parts.{edges_over, is_roomy, given_over, refused_over}
use Rattle.flow_node.proofs.ListLemmas.{all-append}

pub over-has : (outs : List Wire) (port x : ℕ) → list_any (λ (w : Wire). eqb w.out port && eqb w.edge x) outs ≡ has (edges_over outs port) x
over-has [] port x = refl
over-has (w ∷ ws) port x = by_port (eqb w.out port) (over-has ws port x)
  where
    by_port : (b : Bool) → list_any (λ (w : Wire). eqb w.out port && eqb w.edge x) ws ≡ has (edges_over ws port) x
        → ((b && eqb w.edge x) || list_any (λ (w : Wire). eqb w.out port && eqb w.edge x) ws) ≡ has (map edge_number (cond b (w ∷ filter (λ (w : Wire). eqb w.out port) ws) (filter (λ (w : Wire). eqb w.out port) ws))) x
    by_port true h = ap (λ b. eqb w.edge x || b) h
    by_port false h = h

pub over-met : (outs : List Wire) (port : ℕ) (met : List ℕ) → list_all (λ (w : Wire). not (eqb w.out port) || has met w.edge) outs ≡ all_in (edges_over outs port) met
over-met [] port met = refl
over-met (w ∷ ws) port met = by_port (eqb w.out port) (over-met ws port met)
  where
    by_port : (b : Bool) → list_all (λ (w : Wire). not (eqb w.out port) || has met w.edge) ws ≡ all_in (edges_over ws port) met
        → ((not b || has met w.edge) && list_all (λ (w : Wire). not (eqb w.out port) || has met w.edge) ws) ≡ all_in (map edge_number (cond b (w ∷ filter (λ (w : Wire). eqb w.out port) ws) (filter (λ (w : Wire). eqb w.out port) ws))) met
    by_port true h = ap (λ b. has met w.edge && b) h
    by_port false h = h

not_true : (b : Bool) → not b ≡ true → b ≡ false
not_true true h = cc
not_true false h = refl

or_right : (a b : Bool) → (a || b) ≡ false → b ≡ false
or_right true b h = cc
or_right false b h = h

-- numbers among others are still so where one that is none of them goes
all_in-without : (m : ℕ) (ms es : List ℕ) → has ms m ≡ false → all_in ms es ≡ true → all_in ms (without m es) ≡ true
all_in-without m [] es away h = refl
all_in-without m (y ∷ ys) es away h =
    let same : has (without m es) y ≡ has es y = has-without-other m y es (turned (eqb m y) refl) in
    both_true (same ∙ and_left (has es y) (all_in ys es) h) (all_in-without m ys es (or_right (eqb y m) _ away) (and_right (has es y) _ h))
  where
    turned : (b : Bool) → eqb m y ≡ b → eqb m y ≡ false
    turned true e =
        let here : eqb y m ≡ true = eq-eqb y m (sym (eqb-true m y e)) in
        let none : eqb y m ≡ false = or_left _ _ away in
        cc
    turned false e = e

-- distinct numbers that are among others are no more than those
distinct-fits : (ms es : List ℕ) → is_distinct ms ≡ true → all_in ms es ≡ true → length ms ≤ length es
distinct-fits [] es once inside = omega arith
distinct-fits (m ∷ ms) es once inside =
    let away : has ms m ≡ false = not_true _ (and_left (not (has ms m)) (is_distinct ms) once) in
    let here : has es m ≡ true = and_left (has es m) (all_in ms es) inside in
    let fits = distinct-fits ms (without m es) (and_right (not (has ms m)) _ once) (all_in-without m ms es away (and_right (has es m) _ inside)) in
    let less = length-without-has m es here in
    omega arith

-- what a cast keeps so that it may meet what it didn't meet
pub record Roomy (outs : List Wire) (c : RoomyCast) : Type 0 where
  pub once : is_distinct c.cast.met ≡ true
  pub inside : all_in c.cast.met (edges_over outs c.cast.port) ≡ true
  pub most : leb (length (edges_over outs c.cast.port)) c.edges ≡ true
  pub free : is_empty c.cast.holds ≡ true

pub roomy-facts : (outs : List Wire) (c : RoomyCast) → is_roomy outs c ≡ true → Roomy outs c
roomy-facts outs c h =
    let a = is_distinct c.cast.met in
    let b = all_in c.cast.met (edges_over outs c.cast.port) in
    let d = leb (length (edges_over outs c.cast.port)) c.edges in
    let e = is_empty c.cast.holds in
    record {
      once = and_left a b (and_left (a && b) d (and_left (a && b && d) e h));
      inside = and_right a b (and_left (a && b) d (and_left (a && b && d) e h));
      most = and_right (a && b) d (and_left (a && b && d) e h);
      free = and_right (a && b && d) e h;
    }

-- a cast has room to meet an edge of its port that it didn't meet
pub unmet-room : (outs : List Wire) (c : RoomyCast) (x : ℕ) → is_roomy outs c ≡ true → has (edges_over outs c.cast.port) x ≡ true → has c.cast.met x ≡ false → length c.cast.met < c.edges
unmet-room outs c x h over away =
    let r = roomy-facts outs c h in
    let more : suc (length c.cast.met) ≤ length (edges_over outs c.cast.port) = distinct-fits (x ∷ c.cast.met) (edges_over outs c.cast.port) (both_true (ap not away) r.once) (both_true over r.inside) in
    let most = leb-true _ _ r.most in
    omega arith

met-more : (outs : List Wire) (c : RoomyCast) (x : ℕ) → is_roomy outs c ≡ true → has (edges_over outs c.cast.port) x ≡ true → has c.cast.met x ≡ false
    → (is_distinct (c.cast.met ++ x ∷ []) && all_in (c.cast.met ++ x ∷ []) (edges_over outs c.cast.port) && leb (length (edges_over outs c.cast.port)) c.edges && is_empty c.cast.holds) ≡ true
met-more outs c x h over away =
    let r = roomy-facts outs c h in
    both_true (both_true (both_true (distinct-append x c.cast.met r.once away) (all-append (has (edges_over outs c.cast.port)) c.cast.met (x ∷ []) r.inside (both_true over refl))) r.most) r.free

pub roomy-given : (outs : List Wire) (c : RoomyCast) (x : ℕ) → is_roomy outs c ≡ true → has (edges_over outs c.cast.port) x ≡ true → has c.cast.met x ≡ false → is_roomy outs (given_over x c) ≡ true
roomy-given outs c x h over away = met-more outs c x h over away

pub roomy-refused : (outs : List Wire) (c : RoomyCast) (x : ℕ) → is_roomy outs c ≡ true → has (edges_over outs c.cast.port) x ≡ true → has c.cast.met x ≡ false → is_roomy outs (refused_over x c) ≡ true
roomy-refused outs c x h over away = met-more outs c x h over away
