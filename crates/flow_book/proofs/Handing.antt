-- The nodes that a closed book hands on are those after its journal.
use Rattle.std.proofs.Common.{◌≡◌, ℕ, zero, suc, ◌+◌, ◌≤◌, ◌<◌, Bool, false, Option, Some, None, List, [], ◌∷◌, ◌++◌, length, set, get_or, map, replicate, refl, sym, ap, ◌∙◌, subst, arith, append_assoc, append-nil, All}
use Rattle.std.specs.Prelude.{slice_get, IfSome}
use Rattle.std.specs.Option.{option_map}
use Rattle.std.proofs.lemmas.List.{map-append, length-map, length-append}
use Rattle.std.proofs.lemmas.List.Elements.{All-head, All-tail}
use Rattle.std.proofs.lemmas.Option.{same_Some, slice_get_read}
use Rattle.flow_item.specs.declared.event.Event.{Event}
use Rattle.flow_item.specs.declared.event.Party.TheVariants.{Node}
use Rattle.flow_item.specs.Events.{parties_of}
use Rattle.flow_item.specs.Legal.{projection}
use Rattle.flow_item.specs.Lists.{map_places}
use Rattle.flow_shape.specs.declared.Kind.{Kind}
use Rattle.flow_shape.specs.Places.{place_at}
use Rattle.flow_machine.specs.State.{PlacedNode}
use Rattle.flow_node.specs.Readied.{Readied, is_waiting}
use Rattle.flow_nodes.specs.Rows.{node_at, nodes_of}
use Rattle.flow_nodes.specs.Stepping.{node_of}
use Rattle.flow_line.specs.Values.{Sitting, IsPart}
use Rattle.flow_book.specs.declared.machine.Run.{Run}
use Rattle.flow_book.specs.Answers.{about_of}
use Rattle.flow_book.specs.Posts.{node_in, place_about, replayed}
use Rattle.flow_book.specs.Handed.{AreSeated, AreTaken, IsOneMore}

-- ---- which of them wait

-- whether each of the first nodes waits; of the others nothing is told yet
abbrev pub marked : ℕ → List Readied → List Bool
marked at [] = []
marked zero (r ∷ rs) = false ∷ marked zero rs
marked (suc at) (r ∷ rs) = is_waiting r.node ∷ marked at rs

pub marked-none : (rs : List Readied) → replicate (length rs) false ≡ marked 0 rs
marked-none [] = refl
marked-none (r ∷ rs) = ap (λ bs. false ∷ bs) (marked-none rs)

pub marked-more : (rs : List Readied) (at : ℕ) (r : Readied) → slice_get rs at ≡ Some r → set (marked at rs) at (is_waiting r.node) ≡ marked (suc at) rs
marked-more [] at r h = cc
marked-more (x ∷ rs) zero r h = let same : r ≡ x = sym (same_Some x r h) in ap (λ (r : Readied). is_waiting r.node ∷ marked zero rs) same
marked-more (x ∷ rs) (suc at) r h = ap (λ bs. is_waiting x.node ∷ bs) (marked-more rs at r h)

pub marked-all : (rs : List Readied) (at : ℕ) → length rs ≤ at → marked at rs ≡ map is_waiting (map node_of rs)
marked-all [] at h = refl
marked-all (r ∷ rs) zero h = let never : ⊥ = omega (arith, h) in absurd never
marked-all (r ∷ rs) (suc at) h = ap (λ bs. is_waiting r.node ∷ bs) (marked-all rs at (omega (arith, h)))

length-marked : (at : ℕ) (rs : List Readied) → length (marked at rs) ≡ length rs
length-marked at [] = refl
length-marked zero (r ∷ rs) = ap suc (length-marked zero rs)
length-marked (suc at) (r ∷ rs) = ap suc (length-marked at rs)

-- there is a flag for each node
pub within-marked : (rs : List Readied) (at : ℕ) (due : List Bool) → due ≡ marked at rs → at < length rs → at < length due
within-marked rs at due is low = let same = ap length is ∙ length-marked at rs in omega (arith, low, same)

-- one more is told of
pub marked-next : (rs : List Readied) (at : ℕ) (r : Readied) (due now : List Bool) (waits : Bool) → due ≡ marked at rs → at < length rs → r ≡ get_or rs at r → waits ≡ is_waiting r.node → now ≡ set due at waits
    → now ≡ marked (at + 1) rs
marked-next rs at r due now waits is low read told is_now =
    let next : suc at ≡ at + 1 = omega arith in
    is_now ∙ ((λ i. set (is i) at (told i)) ∙ (marked-more rs at r (slice_get_read rs (length rs) at r refl low read) ∙ ap (λ n. marked n rs) next))

-- ---- one more node

seated-more : (n : ℕ) (cs : List (Sitting Event Run)) (vs : List PlacedNode) (c : Sitting Event Run) (v : PlacedNode) → AreSeated n cs vs → c.party ≡ Node (n + length vs) → replayed c ≡ Some v
    → AreSeated n (cs ++ c ∷ []) (vs ++ v ∷ [])
seated-more n [] [] c v h party replay = let same : n + 0 ≡ n = omega arith in (party ∙ ap Node same, replay, tt)
seated-more n [] (w ∷ vs) c v h party replay = absurd h
seated-more n (d ∷ cs) [] c v h party replay = absurd h
seated-more n (d ∷ cs) (w ∷ vs) c v h party replay =
    let next : n + suc (length vs) ≡ suc n + length vs = omega arith in
    (h.0, h.1, seated-more (suc n) cs vs c v h.2 (party ∙ ap Node next) replay)

pub taken-none : (before : List (Sitting Event Run)) (rs : List Readied) → rs ≡ [] → AreTaken (length rs) before before (Some rs)
taken-none before rs none = subst (λ rs. AreTaken (length rs) before before (Some rs)) (sym none) record { chairs = []; behind = sym (append-nil before); theirs = (refl, tt) }

-- without the nodes
pub taken-not : (m n : ℕ) (before after more : List (Sitting Event Run)) (o : Option (List Readied)) → AreTaken m before after o → more ≡ after → AreTaken n before more None
taken-not m n before after more o h same = record { chairs = h.chairs; behind = same ∙ h.behind; theirs = tt }

-- so many
pub taken-all : (count : ℕ) (before after : List (Sitting Event Run)) (rs : List Readied) → AreTaken (length rs) before after (Some rs) → length rs ≡ count → AreTaken count before after (Some rs)
taken-all count before after rs h all = subst (λ n. AreTaken n before after (Some rs)) all h

-- one more was taken from behind its lock
pub taken-more : (before after more : List (Sitting Event Run)) (rs now : List Readied) (r : Readied) (c : Sitting Event Run) → AreTaken (length rs) before after (Some rs)
    → now ≡ rs ++ r ∷ [] → more ≡ after ++ c ∷ [] → c.party ≡ Node (length rs) → replayed c ≡ Some r.node → AreTaken (length now) before more (Some now)
taken-more before after more rs now r c h is_now is_more party replay = record {
  chairs = h.chairs ++ c ∷ [];
  behind = is_more ∙ (ap (λ l. l ++ c ∷ []) h.behind ∙ append_assoc before h.chairs (c ∷ []));
  theirs = (
    refl,
    subst (λ vs. AreSeated 0 (h.chairs ++ c ∷ []) vs) (sym (ap (map node_of) is_now ∙ map-append node_of rs (r ∷ [])))
        (seated-more 0 h.chairs (map node_of rs) c r.node h.theirs.1 (party ∙ ap Node (by_count (length (map node_of rs)) (length rs) (length-map rs node_of))) replay),
  );
}
  where
    by_count : (m n : ℕ) → m ≡ n → n ≡ 0 + m
    by_count m n h = omega (arith, h)

pub taken-one : (before after more : List (Sitting Event Run)) (rs now : List Readied) → AreTaken (length rs) before after (Some rs) → IsOneMore rs now after more → AreTaken (length now) before more (Some now)
taken-one before after more rs now h one = taken-more before after more rs now one.0 one.1 h one.2 one.3 one.4 one.5

pub one-longer : (rs now : List Readied) (after more : List (Sitting Event Run)) → IsOneMore rs now after more → length now ≡ length rs + 1
one-longer rs now after more one = ap length one.2 ∙ length-append rs (one.0 ∷ [])

-- ---- the nodes after the journal

module _ (run : Run) (items events : ℕ) (log : List Event) where
  node-after : (n : ℕ) (k : Kind) (c : Sitting Event Run) (v : PlacedNode) → slice_get run.shape.nodes n ≡ Some k → c.party ≡ Node n → IsPart parties_of (about_of run items events) log c → replayed c ≡ Some v
      → v ≡ node_at run.shape log n k
  node-after n k c v at party part replay =
      let place : place_about c.about c.party ≡ Some (place_at run.shape n k) = (λ i. place_about (part.about_is i) (party i)) ∙ ap (option_map (place_at run.shape n)) at in
      let own : c.own ≡ projection parties_of (Node n) log = part.own ∙ ap (λ p. projection parties_of p log) party in
      let is : replayed c ≡ Some (node_at run.shape log n k) = (λ i. option_map (node_in (own i)) (place i)) in
      same_Some v (node_at run.shape log n k) (sym replay ∙ is)

  nodes-from : (n : ℕ) (cs : List (Sitting Event Run)) (vs : List PlacedNode) (ks : List Kind) → ((j : ℕ) → slice_get ks j ≡ slice_get run.shape.nodes (j + n)) → length vs ≡ length ks → AreSeated n cs vs
      → All (IsPart parties_of (about_of run items events) log) cs → vs ≡ map_places (node_at run.shape log) n ks
  nodes-from n [] [] [] places long h parts = refl
  nodes-from n [] [] (k ∷ ks) places long h parts = let never : ⊥ = omega (arith, long) in absurd never
  nodes-from n [] (v ∷ vs) ks places long h parts = absurd h
  nodes-from n (c ∷ cs) [] ks places long h parts = absurd h
  nodes-from n (c ∷ cs) (v ∷ vs) [] places long h parts = let never : ⊥ = omega (arith, long) in absurd never
  nodes-from n (c ∷ cs) (v ∷ vs) (k ∷ ks) places long h parts =
      let P : Sitting Event Run → Type 0 = IsPart parties_of (about_of run items events) log in
      let here : 0 + n ≡ n = omega arith in
      let at : slice_get run.shape.nodes n ≡ Some k = sym (places 0 ∙ ap (slice_get run.shape.nodes) here) in
      let front : v ≡ node_at run.shape log n k = node-after n k c v at h.0 (All-head P c cs parts) h.1 in
      let rest : vs ≡ map_places (node_at run.shape log) (suc n) ks = nodes-from (suc n) cs vs ks (λ j. places (suc j) ∙ ap (slice_get run.shape.nodes) (moved j n)) (omega (arith, long)) h.2 (All-tail P c cs parts) in
      (λ i. front i ∷ rest i)
    where
      moved : (j n : ℕ) → suc j + n ≡ j + suc n
      moved j n = omega arith

  -- of the chairs' whole journal, they are the nodes after it
  pub nodes-after : (count : ℕ) (before after : List (Sitting Event Run)) (o : Option (List Readied)) (h : AreTaken count before after o) → count ≡ length run.shape.nodes
      → All (IsPart parties_of (about_of run items events) log) h.chairs → IfSome o (λ rs. map node_of rs ≡ nodes_of run.shape log)
  nodes-after count before after None h all parts = tt
  nodes-after count before after (Some rs) h all parts =
      nodes-from 0 h.chairs (map node_of rs) run.shape.nodes (λ j. ap (slice_get run.shape.nodes) (same j)) (length-map rs node_of ∙ (h.theirs.0 ∙ all)) h.theirs.1 parts
    where
      same : (j : ℕ) → j ≡ j + 0
      same j = omega arith
