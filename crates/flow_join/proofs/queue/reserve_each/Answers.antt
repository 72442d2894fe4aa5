use Rattle.std.proofs.Common.{◌≡◌, ◌∙◌, ◌<◌, ◌+◌, ◌≤◌, map, ap, arith, deque_len, deque_capacity}
use Rattle.std.proofs.Math.ListN.{length-set}
use Rattle.std.proofs.Math.Seq.{map-set_same}
use Rattle.std.proofs.lemmas.List.Elements.{AllWithin-more_set}
use Rattle.flow_join.specs.Queues.{ring_items, HasRoom}
use Rattle.flow_join.proofs.Rings.{room-set}
use Rattle.flow_join.proofs.queue.reserve_each.Goals as goal

pub returns-in_err-reserve-clause-items : goal.returns-in_err-reserve-clause-items
returns-in_err-reserve-clause-items c =
    map-set_same ring_items c.loop-port.rings.items c.loop-port.port c.reserve.new.self c.index_mut.result.now (c.reserve.ensures.items ∙ ap ring_items c.index_mut.ensures.value) ∙ c.loop-port.invariant.items

pub returns-in_err-reserve-clause-kept : goal.returns-in_err-reserve-clause-kept
returns-in_err-reserve-clause-kept c m was =
    room-set c.loop-port.rings.items c.loop-port.port m c.index_mut.result.now c.reserve.new.self (omega arith) c.index_mut.ensures.value (omega arith) (omega arith) (c.loop-port.invariant.kept m was)

pub loop-port-preserved : goal.loop-port-preserved
loop-port-preserved c = record {
  len = length-set c.loop-port.rings.items c.loop-port.port c.reserve.new.self ∙ c.loop-port.invariant.len;
  items = map-set_same ring_items c.loop-port.rings.items c.loop-port.port c.reserve.new.self c.index_mut.result.now (c.reserve.ensures.items ∙ ap ring_items c.index_mut.ensures.value) ∙ c.loop-port.invariant.items;
  kept = λ m was. room-set c.loop-port.rings.items c.loop-port.port m c.index_mut.result.now c.reserve.new.self (omega arith) c.index_mut.ensures.value (omega arith) (omega arith) (c.loop-port.invariant.kept m was);
  made = let here : deque_len c.reserve.new.self + c.args.n ≤ deque_capacity c.reserve.new.self = c.in_ok-reserve.ensures.ok in
      AllWithin-more_set c.loop-port.rings.items c.loop-port.port c.reserve.new.self (omega arith) (HasRoom c.args.n) c.loop-port.invariant.made here;
}
