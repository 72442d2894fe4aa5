use Rattle.std.proofs.Common.{◌≡◌, drop}
use Rattle.std.specs.List.{find}
use Rattle.flow_item.specs.Values.{same_item}
use Rattle.flow_shape.specs.Wiring.{is_some_and}
use Rattle.flow_machine.specs.Enabled.{is_numbered}
use Rattle.flow_node.specs.NodeViews.{ticket_items}
use Rattle.flow_book.specs.Jobs.{is_ticket}
use Rattle.flow_book.proofs.ticket.has_ticket.Given as goal

abbrev pub invariant-loop-k : goal.invariant-loop-k
invariant-loop-k l = is_some_and (same_item l.item) (find (is_numbered l.ticket) (drop l.k (ticket_items l.node.node.state.part))) ≡ is_ticket l.node.node.state.part l.ticket l.item
