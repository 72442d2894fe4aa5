-- That nodes may go to other threads.
use denote.Param.Send.{IsSend, sendable}
use Rattle.std.proofs.Crossing.{crosses}
use Rattle.flow_item.proofs.val.Val.TheLaws.TheKnot as knot
use Rattle.flow_item.proofs.roomy.Roomy.TheSendSync as roomy
use Rattle.flow_item.proofs.item.Id.TheSendSync as id
use Rattle.flow_machine.proofs.Claim.TheSendSync as claim
use Rattle.flow_cast.proofs.cast.CastRoom.TheSendSync as room
use Rattle.flow_node.proofs.base.Base.TheSendSync as base
use Rattle.indexmap.proofs.map.IndexMap.TheSendSync as map
use Rattle.smallvec.proofs.small_vec.SmallVec.TheSendSync as small
use Rattle.flow_item.specs.contracts.item.Item as I
use Rattle.flow_store.specs.contracts.fifo.FifoStore as Fifo
use Rattle.flow_store.specs.contracts.bag.BagStore as Bag
use Rattle.flow_store.specs.contracts.rank.RankStore as Rank
use Rattle.flow_store.specs.contracts.seq.SeqStore as Seq
use Rattle.flow_func.specs.contracts.func.Func as Func
use Rattle.flow_cast.specs.contracts.cast.Cast as Cast
use Rattle.flow_join.specs.contracts.queue.QueueJoin as QueueJoin
use Rattle.flow_join.specs.contracts.key.KeyJoin as KeyJoin
use Rattle.flow_node.specs.contracts.node.NodeState as Node
use Rattle.flow_book.proofs.SentEvents.{val-send, item-send}

item-field-send : IsSend (I.the_field).row
item-field-send = search (crosses, knot.crosses, sendable) depth 60 fits 20000

pub fifo-send : IsSend Fifo.the_row
fifo-send = search (crosses, item-send, claim.the_send, sendable) depth 60 fits 200000

pub bag-send : IsSend Bag.the_row
bag-send = search (crosses, item-send, claim.the_send, sendable) depth 60 fits 200000

pub rank-send : IsSend Rank.the_row
rank-send = search (crosses, item-field-send, sendable) depth 60 fits 200000

pub seq-send : IsSend Seq.the_row
seq-send = search (crosses, item-send, map.the_send, claim.the_send, sendable) depth 60 fits 200000

pub func-send : IsSend Func.the_row
func-send = search (crosses, item-send, sendable) depth 60 fits 200000

pub cast-send : IsSend Cast.the_row
cast-send = search (crosses, item-field-send, small.the_send, sendable) depth 60 fits 200000

pub queue-join-send : IsSend QueueJoin.the_row
queue-join-send = search (crosses, item-send, sendable) depth 60 fits 200000

pub key-join-send : IsSend KeyJoin.the_row
key-join-send = search (crosses, item-send, map.the_send, sendable) depth 60 fits 200000

pub node-send : IsSend Node.the_row
node-send = search (crosses, knot.crosses, val-send, fifo-send, bag-send, rank-send, seq-send, func-send, cast-send, queue-join-send, key-join-send, room.the_send, roomy.the_send, id.the_send, base.the_field_send, sendable) depth 60 fits 200000
