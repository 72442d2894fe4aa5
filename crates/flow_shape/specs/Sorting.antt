-- What stands while the nodes are put in order.
use Rattle.std.specs.Prelude.{◌≡◌, ℕ, suc, ◌+◌, ◌-◌, ◌<◌, Bool, true, not, ◌&&◌, if◌then◌else◌, nat_eq, nat_lt, List, [], ◌∷◌, ◌++◌, length, get_or, slice_set}
use Rattle.std.specs.List.{list_all}
use Rattle.flow_item.specs.Lists.{has}
use Rattle.flow_shape.specs.declared.Edge.{Edge}
use Rattle.flow_shape.specs.declared.Shape.{Shape}
use Rattle.flow_shape.specs.Orders.{has_no_double}

-- how many of the edges into node m come from no node of the list
abbrev pub waits : List Edge → List ℕ → ℕ → ℕ
waits [] done m = 0
waits (e ∷ es) done m = if nat_eq e.to m && not (has done e.from) then suc (waits es done m) else waits es done m

-- the to-nodes of the edges out of a node
abbrev pub targets : List Edge → ℕ → List ℕ
targets [] n = []
targets (e ∷ es) n = if nat_eq e.from n then e.to ∷ targets es n else targets es n

abbrev pub AreTargets : Shape → List (List ℕ) → Type 0
AreTargets shape lists = (length lists ≡ length shape.nodes) × ((n : ℕ) → n < length shape.nodes → get_or lists n [] ≡ targets shape.edges n)

abbrev pub AreWaits : Shape → List ℕ → Type 0
AreWaits shape counts = (length counts ≡ length shape.nodes) × ((m : ℕ) → m < length shape.nodes → get_or counts m 0 ≡ waits shape.edges [] m)

-- how often m is in the list
abbrev pub times : ℕ → List ℕ → ℕ
times m [] = 0
times m (n ∷ ns) = if nat_eq n m then suc (times m ns) else times m ns

-- an edge to m is followed: m waits for one less, and stands last in the order where that was the last
abbrev pub followed_once : ℕ → List ℕ × List ℕ → List ℕ × List ℕ
followed_once m s = (slice_set s.0 m (get_or s.0 m 0 - 1), if nat_eq (get_or s.0 m 0 - 1) 0 then s.1 ++ m ∷ [] else s.1)

abbrev pub followed : List ℕ → List ℕ × List ℕ → List ℕ × List ℕ
followed [] s = s
followed (m ∷ ms) s = followed ms (followed_once m s)

-- each node of the list waits for none but those before it
abbrev pub sourced : List Edge → List ℕ → List ℕ → Bool
sourced es before [] = true
sourced es before (m ∷ ms) = nat_eq (waits es before m) 0 && sourced es (before ++ m ∷ []) ms

-- the edges out of `done` are followed but for those to `left`: `counts` has what each node waits for, and `order` those that wait for none
pub record Sorting (shape : Shape) (done left counts order : List ℕ) : Type 0 where
  pub counted : length counts ≡ length shape.nodes
  pub waiting : (m : ℕ) → m < length shape.nodes → get_or counts m 0 ≡ waits shape.edges done m + times m left
  pub within : list_all (λ n. nat_lt n (length shape.nodes)) order ≡ true
  pub once : has_no_double order ≡ true
  pub ready : (m : ℕ) → m < length shape.nodes → has order m ≡ nat_eq (get_or counts m 0) 0
  pub forwards : sourced shape.edges [] order ≡ true
  pub begun : (m : ℕ) → has done m ≡ true → has order m ≡ true
