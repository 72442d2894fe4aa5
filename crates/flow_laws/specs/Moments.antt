-- What holds of a run at each moment, as facts of its journal.
use Rattle.std.specs.Prelude.{◌≡◌, ℕ, ◌+◌, ◌<◌, ◌≤◌, true, Some, List, ◌∷◌, ◌++◌, length, slice_get}
use Rattle.flow_item.specs.declared.event.Event.{Event}
use Rattle.flow_item.specs.Lists.{map_places}
use Rattle.flow_item.specs.Events.{births_of, births}
use Rattle.flow_shape.specs.declared.Kind.{Kind}
use Rattle.flow_shape.specs.declared.Shape.{Shape}
use Rattle.flow_machine.specs.Machine.{state_of, sum_of, modes_agree}
use Rattle.flow_machine.specs.Ledger.{tally_of, gone_of, kept_items}
use Rattle.flow_machine.specs.Reservations.{holds_match}
use Rattle.flow_machine.specs.Limits.{limits_kept}

-- there are at most `events` events, and before each event that bears items fewer than `items` were born
pub record IsWithinLimits (items events : ℕ) (es : List Event) : Type 0 where
  pub few : length es ≤ events
  pub room : (before : List Event) (e : Event) (later : List Event) → es ≡ before ++ e ∷ later → 0 < births_of e → births before < items

-- it holds at each prefix of the journal
abbrev pub AtEachStart : (List Event → Type 0) → List Event → Type 0
AtEachStart Holds es = (before later : List Event) → es ≡ before ++ later → Holds before

-- both ends of each edge agree whether it is in push or in pull
abbrev pub EdgesAgree : Shape → List Event → Type 0
EdgesAgree shape es = modes_agree shape es ≡ true

-- both ends of each edge hold the same items, each once
abbrev pub HoldsAgree : Shape → List Event → Type 0
HoldsAgree shape es = holds_match shape es ≡ true

-- ready and running bodies are within each node's limit, counts and hands within each threshold
abbrev pub NodesWithinLimits : Shape → List Event → Type 0
NodesWithinLimits shape es = limits_kept shape es ≡ true

-- what came to each node went out, was eaten, lost or written over, or is kept there, and what came to all nodes was born
pub record LedgerAddsUp (shape : Shape) (es : List Event) : Type 0 where
  pub each : (n : ℕ) (k : Kind) → slice_get shape.nodes n ≡ Some k → (tally_of n k es).came ≡ gone_of (tally_of n k es) + length (kept_items (state_of shape n k es).part)
  pub all : sum_of (map_places (λ n k. (tally_of n k es).came) 0 shape.nodes) ≡ births es
