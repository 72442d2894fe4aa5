-- The nodes after one more event.
use Rattle.std.proofs.Common.{◌≡◌, ℕ, suc, ◌<◌, Bool, true, false, cond, eqb, Option, Some, None, List, [], ◌∷◌, ◌++◌, length, map, refl, sym, ap, ◌∙◌, arith}
use Rattle.std.specs.Prelude.{slice_get}
use Rattle.std.specs.List.{list_all}
use Rattle.std.specs.Option.{option_map}
use Rattle.std.proofs.lemmas.List.{length-map}
use Rattle.std.proofs.lemmas.Option.{same_Some, slice_get-map, slice_get_within}
use Rattle.flow_item.specs.declared.event.Event.{Event}
use Rattle.flow_item.specs.declared.event.Party.TheVariants.{Node}
use Rattle.flow_item.specs.declared.event.Link.{Link}
use Rattle.flow_item.specs.Lists.{map_places}
use Rattle.flow_item.specs.Events.{parties_of}
use Rattle.flow_item.specs.Legal.{takes_part, projection}
use Rattle.flow_item.proofs.Journals.{may_follow-allows}
use Rattle.flow_shape.specs.declared.Kind.{Kind}
use Rattle.flow_shape.specs.declared.Shape.{Shape}
use Rattle.flow_shape.specs.Places.{place_at}
use Rattle.flow_shape.specs.Rules.{IsValid}
use Rattle.flow_shape.proofs.Valid.{link-edge, valid-joins_two}
use Rattle.flow_machine.specs.State.{PlacedNode, NodeState}
use Rattle.flow_machine.specs.After.{after, link_of}
use Rattle.flow_machine.specs.Machine.{allows, node_allows, is_legal, may_follow, state_of}
use Rattle.flow_machine.proofs.Steps.{HasLink, state_of-snoc, may_follow-linked}
use Rattle.flow_machine.proofs.Local.{may_follow-allows_at}
use Rattle.flow_node.specs.Built.{is_built}
use Rattle.flow_node.specs.Readied.{Readied, loops, is_loop}
use Rattle.flow_nodes.specs.Stepping.{node_of, stepped_at, all_stepped, MayStep, CanApply}
use Rattle.flow_nodes.specs.Rows.{node_at, nodes_of}
use Rattle.flow_nodes.proofs.ListLemmas.{get-map_places}
use Rattle.flow_node.proofs.HoldLemmas.{no-reserving}

-- ---- the nodes after one more event

-- each node is stepped
pub nodes_of-snoc : (shape : Shape) (es : List Event) (e : Event) → nodes_of shape (es ++ e ∷ []) ≡ all_stepped e (nodes_of shape es)
nodes_of-snoc shape es e = each 0 shape.nodes
  where
    one : (n : ℕ) (k : Kind) (b : Bool) → ◌≡◌ {A = PlacedNode} (record { place = place_at shape n k; state = cond b (after (place_at shape n k) (state_of shape n k es) e) (state_of shape n k es) }) (cond b (record { place = place_at shape n k; state = after (place_at shape n k) (state_of shape n k es) e }) (node_at shape es n k))
    one n k true = refl
    one n k false = refl

    each : (n : ℕ) (ks : List Kind) → map_places (node_at shape (es ++ e ∷ [])) n ks ≡ map_places (stepped_at e) n (map_places (node_at shape es) n ks)
    each n [] = refl
    each n (k ∷ ks) =
        let front : node_at shape (es ++ e ∷ []) n k ≡ stepped_at e n (node_at shape es n k) =
        ap (λ (s : NodeState). record { place = place_at shape n k; state = s }) (state_of-snoc shape n k es e) ∙ one n k (takes_part (parties_of e) (Node n)) in
        let rest = each (suc n) ks in
        cc

-- the node at a place
pub nodes_of-get : (shape : Shape) (es : List Event) (n : ℕ) (k : Kind) → slice_get shape.nodes n ≡ Some k → slice_get (nodes_of shape es) n ≡ Some (node_at shape es n k)
nodes_of-get shape es n k h = get-map_places (node_at shape es) 0 shape.nodes n n (omega arith) ∙ ap (option_map (node_at shape es n)) h

-- ---- an event that may follow may be applied

some_kind : (shape : Shape) (es : List Event) (n : ℕ) (e : Event) (o : Option Kind) → node_allows (option_map (place_at shape n) o) es e ≡ true → (k : Kind) × (o ≡ Some k)
some_kind shape es n e None h = cc
some_kind shape es n e (Some k) h = (k, refl)

pub party-kind : (shape : Shape) (es : List Event) (e : Event) (n : ℕ) → may_follow shape es e ≡ true → takes_part (parties_of e) (Node n) ≡ true → (k : Kind) × (slice_get shape.nodes n ≡ Some k)
party-kind shape es e n h t = some_kind shape (projection parties_of (Node n) es) n e (slice_get shape.nodes n) (may_follow-allows parties_of (allows shape) es e (Node n) h t)

-- an event goes to another node
pub no-loop : (shape : Shape) (es : List Event) (e : Event) → IsValid shape → may_follow shape es e ≡ true → is_loop e ≡ false
no-loop shape es e valid h = by_link (link_of e) (may_follow-linked shape es e h)
  where
    by_link : (o : Option Link) → HasLink shape o → loops o ≡ false
    by_link None linked = refl
    by_link (Some l) linked =
        let x = link-edge shape l linked in
        sym (ap (λ n. eqb n x.0.to) x.2 ∙ ap (λ n. eqb l.from n) x.3) ∙ valid-joins_two shape l.edge x.0 valid x.1

pub can-apply : (shape : Shape) (es : List Event) (e : Event) (nodes : List Readied) → map node_of nodes ≡ nodes_of shape es → IsValid shape → list_all is_built shape.nodes ≡ true → is_legal shape es ≡ true → may_follow shape es e ≡ true → CanApply nodes e
can-apply shape es e nodes seen valid built legal h = record { apart = no-loop shape es e valid h; within = inside; may = may_step }
  where
    at_place : (n : ℕ) (k : Kind) → slice_get shape.nodes n ≡ Some k → option_map node_of (slice_get nodes n) ≡ Some (node_at shape es n k)
    at_place n k at = sym (slice_get-map node_of nodes n) ∙ ap (λ vs. slice_get vs n) seen ∙ nodes_of-get shape es n k at

    inside : (n : ℕ) → takes_part (parties_of e) (Node n) ≡ true → n < length nodes
    inside n t = let k = party-kind shape es e n h t in
        let short = slice_get_within (map node_of nodes) n (node_at shape es n k.0) (slice_get-map node_of nodes n ∙ at_place n k.0 k.1) in
        rw (length-map nodes node_of) at short

    may_step : (n : ℕ) → takes_part (parties_of e) (Node n) ≡ true → (q : Readied) → slice_get nodes n ≡ Some q → MayStep n q.node e
    may_step n t q at =
        let k = party-kind shape es e n h t in
        let is : node_at shape es n k.0 ≡ q.node = same_Some _ _ (sym (at_place n k.0 k.1) ∙ ap (option_map node_of) at) in
        let m : MayStep n (node_at shape es n k.0) e = record {
          number = refl;
          met = no-reserving shape es e valid built legal h;
          party = t;
          allowed = may_follow-allows_at shape n k.0 k.1 es e h t;
          apart = no-loop shape es e valid h;
        } in
        rw is at m
