use Rattle.std.proofs.Common.{◌≡◌, ◌∙◌, ◌<◌, ◌+◌, ◌≤◌, map, ap, sym, length, arith}
use Rattle.std.proofs.Math.ListN.{length-set}
use Rattle.std.proofs.lemmas.List.{length-map}
use Rattle.flow_item.specs.declared.item.Item.{Item}
use Rattle.flow_machine.specs.WishEvents.{id_of}
use Rattle.flow_item.specs.Lists.{first, rest}
use Rattle.flow_join.specs.Queues.{ring_items, HasRoom}
use Rattle.flow_join.proofs.Ports.{changed_to-end, fronts-end}
use Rattle.flow_join.proofs.Rings.{room-set, ring-at, ring-some, ring-step, given-step, grown, grown-all}
use Rattle.flow_join.proofs.queue.take_fronts.Goals as goal

pub take_front-requires-clause-some : goal.take_front-requires-clause-some
take_front-requires-clause-some c =
    ring-some (map ring_items c.args.rings.now.items) c.loop-port.rings.items c.loop-port.port c.index_mut.result.now c.requires.ready c.loop-port.invariant.rings (omega arith) c.index_mut.ensures.value

pub loop-port-preserved : goal.loop-port-preserved
loop-port-preserved c =
    let xss = map ring_items c.args.rings.now.items in
    let l = c.loop-port in
    let at = ring-at xss l.rings.items l.port c.index_mut.result.now l.invariant.rings (omega arith) c.index_mut.ensures.value in
    record {
      len = length-set l.rings.items l.port c.take_front.new.ring ∙ l.invariant.len;
      rings = ring-step xss l.rings.items l.port c.index_mut.result.now c.take_front.new.ring l.invariant.rings c.index_mut.ensures.value c.take_front.ensures.ring;
      ids = grown l.ids c.take_front.new.ids _ _ _ _ _ l.port l.invariant.ids c.take_front.ensures.ids (given-step xss l.rings.items l.port c.index_mut.result.now id_of at);
      vals = grown l.vals c.take_front.new.vals _ _ _ _ _ l.port l.invariant.vals c.take_front.ensures.vals (given-step xss l.rings.items l.port c.index_mut.result.now (λ (i : Item). i.val) at);
      room = λ m was. room-set l.rings.items l.port m c.index_mut.result.now c.take_front.new.ring (omega arith) c.index_mut.ensures.value (omega arith) (omega arith) (l.invariant.room m was);
    }

pub returns-clause-rings : goal.returns-clause-rings
returns-clause-rings c =
    let xss = map ring_items c.args.rings.now.items in
    let same = c.args.rings.now.ok.0 in
    let all : c.loop-port.port ≡ length xss = omega (arith, length-map c.args.rings.now.items ring_items) in
    c.loop-port.invariant.rings ∙ changed_to-end rest c.loop-port.port xss all

pub returns-clause-ids : goal.returns-clause-ids
returns-clause-ids c =
    let xss = map ring_items c.args.rings.now.items in
    let same = c.args.rings.now.ok.0 in
    let all : c.loop-port.port ≡ length c.args.rings.now.items = omega arith in
    c.loop-port.invariant.ids ∙ grown-all _ _ _ _ _ _ (ap (map id_of) (fronts-end xss c.loop-port.port c.requires.ready (all ∙ sym (length-map c.args.rings.now.items ring_items)))) all

pub returns-clause-vals : goal.returns-clause-vals
returns-clause-vals c =
    let xss = map ring_items c.args.rings.now.items in
    let same = c.args.rings.now.ok.0 in
    let all : c.loop-port.port ≡ length c.args.rings.now.items = omega arith in
    c.loop-port.invariant.vals ∙ grown-all _ _ _ _ _ _ (ap (map (λ (i : Item). i.val)) (fronts-end xss c.loop-port.port c.requires.ready (all ∙ sym (length-map c.args.rings.now.items ring_items)))) all
