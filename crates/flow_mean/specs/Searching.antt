-- What stands while the nodes are looked for to which a way leads.
use Rattle.std.specs.Prelude.{◌≡◌, ℕ, ◌<◌, ◌≤◌, Bool, true, false, ◌||◌, if◌then◌else◌, nat_lt, Some, List, [], ◌∷◌, ◌++◌, length, get_or, slice_get, slice_set}
use Rattle.std.specs.List.{list_all}
use Rattle.flow_item.specs.Lists.{has}
use Rattle.flow_shape.specs.declared.Edge.{Edge}
use Rattle.flow_shape.specs.declared.Shape.{Shape}
use Rattle.flow_shape.specs.Orders.{has_no_double}
use Rattle.flow_mean.specs.Determinate.{onward_times}

-- a node is marked and stands last in the order, unless it was marked before
abbrev pub met_once : ℕ → List Bool × List ℕ → List Bool × List ℕ
met_once m s = if get_or s.0 m false then s else (slice_set s.0 m true, s.1 ++ m ∷ [])

abbrev pub met : List ℕ → List Bool × List ℕ → List Bool × List ℕ
met [] s = s
met (m ∷ ms) s = met ms (met_once m s)

-- the nodes of the order are marked, and a way leads to each from one of the first nodes, with no more edges than stand before it;
-- the edges out of the first `at` of them are followed but for those to `left`
pub record Searching (shape : Shape) (firsts : List ℕ) (at : ℕ) (left : List ℕ) (marks : List Bool) (order : List ℕ) : Type 0 where
  pub sized : length marks ≡ length shape.nodes
  pub within : list_all (λ n. nat_lt n (length shape.nodes)) order ≡ true
  pub once : has_no_double order ≡ true
  pub marked : (n : ℕ) → n < length shape.nodes → get_or marks n false ≡ has order n
  pub reached : (i n : ℕ) → slice_get order i ≡ Some n → has (onward_times i shape.edges firsts) n ≡ true
  pub next : (n : ℕ) → has left n ≡ true → (at ≤ length order) × (has (onward_times at shape.edges firsts) n ≡ true)
  pub begun : (n : ℕ) → has firsts n ≡ true → (has order n || has left n) ≡ true
  pub followed : (i x : ℕ) (e : Edge) → i < at → slice_get order i ≡ Some e.from → slice_get shape.edges x ≡ Some e → (has order e.to || has left e.to) ≡ true
