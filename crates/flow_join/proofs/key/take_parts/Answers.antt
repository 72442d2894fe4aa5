use Rattle.std.proofs.Common.{◌≡◌, ◌∙◌, ◌<◌, ◌+◌, ◌≤◌, List, Option, map, ap, sym, length, arith}
use Rattle.std.proofs.Math.ListN.{length-set}
use Rattle.std.proofs.lemmas.List.{length-map}
use Rattle.std.specs.List.{list_any}
use Rattle.flow_item.specs.declared.item.Item.{Item}
use Rattle.flow_item.specs.Lists.{first, drop_first}
use Rattle.flow_machine.specs.Offers.{with_tag}
use Rattle.flow_machine.specs.After.{has_tag}
use Rattle.flow_machine.specs.WishEvents.{id_of}
use Rattle.flow_join.specs.Tags.{RoomyPort}
use Rattle.flow_join.specs.Keys.{port_items}
use Rattle.flow_join.proofs.Ports.{changed_to-end}
use Rattle.flow_join.proofs.Rings.{grown, grown-all}
use Rattle.flow_join.proofs.Changes.{all-at, each-items, port-at, port-step, given-next, given-end}
use Rattle.flow_join.proofs.Matching.{each-fronts}
use Rattle.flow_join.proofs.key.take_parts.Goals as goal

pub take-part-requires : goal.take-part-requires
take-part-requires c =
    let xss = map port_items c.args.ports.now.items in
    let l = c.loop-port in
    let at = port-at xss l.ports.items l.port c.index_mut-at.result.now (drop_first (has_tag c.args.tag)) l.invariant.ports (omega arith) c.index_mut-at.ensures.value in
    all-at (λ (is : List Item). list_any (has_tag c.args.tag) is) xss l.port c.index_mut-at.result.now.items (sym (each-items c.args.tag c.args.ports.now.items) ∙ c.requires.each) at

pub loop-port-preserved : goal.loop-port-preserved
loop-port-preserved c =
    let xss = map port_items c.args.ports.now.items in
    let l = c.loop-port in
    let g : List Item → Option Item = λ (is : List Item). first (with_tag c.args.tag is) in
    let was = c.index_mut-at.result.now in
    let now = c.take-part.new.self in
    let at = port-at xss l.ports.items l.port was (drop_first (has_tag c.args.tag)) l.invariant.ports (omega arith) c.index_mut-at.ensures.value in
    record {
      len = length-set l.ports.items l.port now ∙ l.invariant.len;
      ports = port-step xss l.ports.items l.port was (drop_first (has_tag c.args.tag)) now l.invariant.ports c.index_mut-at.ensures.value (ap port_items c.take-part.ensures.port);
      ids = grown l.ids c.push_part.new.ids _ _ _ _ _ l.port l.invariant.ids c.push_part.ensures.ids (given-next g id_of l.port xss was.items c.take-part.result at c.take-part.ensures.item);
      vals = grown l.vals c.push_part.new.vals _ _ _ _ _ l.port l.invariant.vals c.push_part.ensures.vals (given-next g (λ (i : Item). i.val) l.port xss was.items c.take-part.result at c.take-part.ensures.item);
    }

pub returns-clause-ports : goal.returns-clause-ports
returns-clause-ports c =
    let xss = map port_items c.args.ports.now.items in
    let same = c.args.ports.now.ok.0 in
    let all : c.loop-port.port ≡ length xss = omega (arith, length-map c.args.ports.now.items port_items) in
    c.loop-port.invariant.ports ∙ changed_to-end (drop_first (has_tag c.args.tag)) c.loop-port.port xss all

pub returns-clause-ids : goal.returns-clause-ids
returns-clause-ids c =
    let xss = map port_items c.args.ports.now.items in
    let same = c.args.ports.now.ok.0 in
    let all : c.loop-port.port ≡ length c.args.ports.now.items = omega arith in
    let ready = sym (each-fronts c.args.tag c.args.ports.now.items) ∙ c.requires.each in
    c.loop-port.invariant.ids
    ∙ grown-all _ _ _ _ _ _ (ap (map id_of) (given-end c.args.tag c.loop-port.port xss ready (all ∙ sym (length-map c.args.ports.now.items port_items)))) all

pub returns-clause-vals : goal.returns-clause-vals
returns-clause-vals c =
    let xss = map port_items c.args.ports.now.items in
    let same = c.args.ports.now.ok.0 in
    let all : c.loop-port.port ≡ length c.args.ports.now.items = omega arith in
    let ready = sym (each-fronts c.args.tag c.args.ports.now.items) ∙ c.requires.each in
    c.loop-port.invariant.vals
    ∙ grown-all _ _ _ _ _ _ (ap (map (λ (i : Item). i.val)) (given-end c.args.tag c.loop-port.port xss ready (all ∙ sym (length-map c.args.ports.now.items port_items)))) all
