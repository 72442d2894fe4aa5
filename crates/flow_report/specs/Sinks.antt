-- The sinks section: what each sink has, in print order.
use Rattle.std.specs.Prelude.{ℕ, Option, Some, None, List, [], ◌∷◌, length, map, codes, decimal, slice_get}
use Rattle.std.specs.List.{flat_map}
use Rattle.flow_item.specs.declared.event.Event.{Event}
use Rattle.flow_item.specs.Pairs.{Pair, pair_of}
use Rattle.flow_shape.specs.declared.Kind.{Kind}
use Rattle.flow_shape.specs.declared.Shape.{Shape}
use Rattle.flow_machine.specs.Machine.{state_of}
use Rattle.flow_machine.specs.PrintOrder.{items_in_order}
use Rattle.flow_report.specs.Words.{line}
use Rattle.flow_report.specs.Values.{value_text}

abbrev pub node_pairs : Shape → List Event → ℕ → Option Kind → List Pair
node_pairs shape es n None = []
node_pairs shape es n (Some k) = map pair_of (items_in_order k (state_of shape n k es).part)

-- what node n has after the journal
abbrev pub sink_pairs : Shape → List Event → ℕ → List Pair
sink_pairs shape es n = node_pairs shape es n (slice_get shape.nodes n)

abbrev pub pair_line : Pair → List ℕ
pair_line p = line (decimal p.0 ∷ value_text p.1 ∷ [])

abbrev pub text_or_empty : Option (List ℕ) → List ℕ
text_or_empty None = []
text_or_empty (Some name) = name

abbrev pub name_of : List (List ℕ) → ℕ → List ℕ
name_of names n = text_or_empty (slice_get names n)

abbrev pub sink_lines : List (List ℕ) → (ℕ → List Pair) → ℕ → List (List ℕ)
sink_lines names has n = line (name_of names n ∷ decimal (length (has n)) ∷ []) ∷ map pair_line (has n)

abbrev pub sinks_line : List ℕ → List ℕ
sinks_line sinks = line (codes "sinks" ∷ decimal (length sinks) ∷ [])

-- the lines of each sink, with what it has
abbrev pub all_sink_lines : List (List ℕ) → (ℕ → List Pair) → List ℕ → List (List ℕ)
all_sink_lines names has sinks = flat_map (sink_lines names has) sinks

-- the number of sinks, and the lines of each
abbrev pub sinks_section : List (List ℕ) → (ℕ → List Pair) → List ℕ → List (List ℕ)
sinks_section names has sinks = sinks_line sinks ∷ all_sink_lines names has sinks
