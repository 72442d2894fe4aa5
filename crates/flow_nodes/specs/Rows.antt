-- The nodes of a graph after a journal, in the order of their numbers.
use Rattle.std.specs.Prelude.{ℕ, List}
use Rattle.flow_item.specs.declared.event.Event.{Event}
use Rattle.flow_shape.specs.declared.Kind.{Kind}
use Rattle.flow_shape.specs.declared.Shape.{Shape}
use Rattle.flow_shape.specs.Places.{place_at}
use Rattle.flow_machine.specs.State.{PlacedNode}
use Rattle.flow_machine.specs.Machine.{state_of, of_nodes}

-- node n, which is of kind k, after the journal
abbrev pub node_at : Shape → List Event → ℕ → Kind → PlacedNode
node_at shape es n k = record { place = place_at shape n k; state = state_of shape n k es }

-- the nodes after the journal
abbrev pub nodes_of : Shape → List Event → List PlacedNode
nodes_of shape es = of_nodes shape es (λ place s. record { place = place; state = s })
