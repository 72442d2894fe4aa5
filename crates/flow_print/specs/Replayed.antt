-- What the nodes of a graph in code have to print.
use Rattle.std.specs.Prelude.{◌≡◌, ℕ, ⊤, true, Option, Some, None, List, [], map, slice_get}
use Rattle.std.specs.List.{list_all}
use Rattle.flow_item.specs.declared.event.Event.{Event}
use Rattle.flow_item.specs.Pairs.{Pair, pair_of}
use Rattle.flow_machine.specs.PrintOrder.{items_in_order}
use Rattle.flow_node.specs.Built.{is_built}
use Rattle.flow_node.specs.Readied.{Readied}
use Rattle.flow_nodes.specs.Stepping.{node_of}
use Rattle.flow_nodes.specs.Rows.{nodes_of}
use Rattle.flow_doc.specs.declared.Doc.{Doc}

abbrev pub pairs_in : Option Readied → List Pair
pairs_in None = []
pairs_in (Some r) = map pair_of (items_in_order r.node.place.kind r.node.state.part)

-- what node n has
abbrev pub pairs_of : List Readied → ℕ → List Pair
pairs_of nodes n = pairs_in (slice_get nodes n)

-- there is code for each node of the document
abbrev pub IsBuilt : Option Doc → Type 0
IsBuilt None = ⊤
IsBuilt (Some doc) = list_all is_built doc.shape.nodes ≡ true

-- these are the document's nodes after the journal
abbrev pub AreStates : Option Doc → List Event → List Readied → Type 0
AreStates None es nodes = ⊤
AreStates (Some doc) es nodes = map node_of nodes ≡ nodes_of doc.shape es
