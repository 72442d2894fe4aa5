-- Orders of the nodes in which each edge goes forwards, and cycles.
use Rattle.std.specs.Prelude.{◌≡◌, ℕ, Bool, true, false, not, ◌&&◌, ◌||◌, if◌then◌else◌, nat_eq, nat_lt, Option, Some, None, List, [], ◌∷◌, length}
use Rattle.std.specs.List.{list_all}
use Rattle.flow_item.specs.Lists.{has}
use Rattle.flow_shape.specs.declared.Edge.{Edge}
use Rattle.flow_shape.specs.declared.Shape.{Shape}
use Rattle.flow_shape.specs.Wiring.{at_edge}
use Rattle.flow_shape.specs.Rules.{each_below}

-- whether a is met in the list before b is
abbrev pub stands_before : ℕ → ℕ → List ℕ → Bool
stands_before a b [] = false
stands_before a b (n ∷ ns) = if nat_eq n b then false else (nat_eq n a || stands_before a b ns)

-- whether no number is twice in the list
abbrev pub has_no_double : List ℕ → Bool
has_no_double [] = true
has_no_double (n ∷ ns) = not (has ns n) && has_no_double ns

-- each node stands in the list, once, nothing else does, and each edge goes forwards
abbrev pub is_order : Shape → List ℕ → Bool
is_order shape order =
    each_below (has order) (length shape.nodes)
    && list_all (λ n. nat_lt n (length shape.nodes)) order
    && has_no_double order
    && list_all (λ (e : Edge). stands_before e.from e.to order) shape.edges

-- whether these edges, one after another, lead from node a to node b
abbrev pub leads : Shape → List ℕ → ℕ → ℕ → Bool
leads shape [] a b = nat_eq a b
leads shape (x ∷ xs) a b = at_edge shape x (λ e. nat_eq e.from a && leads shape xs e.to b)

-- one edge or more lead from a node back to it
abbrev pub HasCycle : Shape → Type 0
HasCycle shape = (n x : ℕ) × (xs : List ℕ) × (leads shape (x ∷ xs) n n ≡ true)

-- the answer is an order, and there is no cycle, or it is none, and there is one
abbrev pub Sorts : Shape → Option (List ℕ) → Type 0
Sorts shape None = HasCycle shape
Sorts shape (Some order) = (is_order shape order ≡ true) × (HasCycle shape → ⊥)
