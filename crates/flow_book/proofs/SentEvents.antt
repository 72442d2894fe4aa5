-- That values and events may go to other threads.
use denote.Param.Send.{IsSend, IsSync, sendable}
use Rattle.std.proofs.Crossing.{crosses}
use Rattle.flow_item.proofs.val.Val.TheLaws.TheKnot as knot
use Rattle.flow_item.specs.contracts.val.Val as V
use Rattle.flow_item.specs.contracts.item.Item as I
use Rattle.flow_item.specs.contracts.item.Outs as O
use Rattle.flow_item.proofs.items.Items.TheSendSync as items
use Rattle.flow_item.proofs.item.Ids.TheSendSync as ids
use Rattle.flow_item.proofs.val.Text.TheSendSync as text
use Rattle.flow_item.specs.contracts.event.Event as E
use Rattle.flow_shape.specs.contracts.Kind as K
use Rattle.flow_shape.proofs.Edge.TheSendSync as edge
use Rattle.flow_book.specs.contracts.machine.Run as R

pub val-send : IsSend V.the_row
val-send = search (crosses, knot.crosses, sendable) depth 60 fits 20000

pub item-send : IsSend I.the_row
item-send = search (crosses, knot.crosses, sendable) depth 60 fits 20000

pub outs-send : IsSend O.the_row
outs-send = search (crosses, knot.crosses, items.the_send, sendable) depth 60 fits 20000

pub event-send : IsSend E.the_row
event-send = search (crosses, knot.crosses, outs-send, ids.the_send, text.the_send, sendable) depth 60 fits 200000

pub kind-sync : IsSync K.the_row
kind-sync = search (crosses, knot.crosses, items.the_sync, text.the_sync, sendable) depth 60 fits 200000

pub run-sync : IsSync R.the_row
run-sync = search (crosses, kind-sync, edge.the_sync, items.the_sync, sendable) depth 60 fits 200000
