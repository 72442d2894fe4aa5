use Rattle.std.proofs.Common.{◌≡◌, ◌∙◌, List, Option, ℕ, None, Some, ap}
use Rattle.flow_item.specs.declared.item.Item.{Item}
use Rattle.flow_join.specs.Keys.{RoomyKeyJoin, port_items}
use Rattle.flow_join.proofs.Changes.{keeps-reserved, reserved-items, ready-set}
use Rattle.flow_join.proofs.key.KeyJoin.reserve.Goals as goal

pub invariant_of-self-in_err-reserve : goal.invariant_of-self-in_err-reserve
invariant_of-self-in_err-reserve c =
    let i = c.self.inside in
    keeps-reserved i.ports.items c.args.port c.index_mut-at.result.now c.reserve.new.self i.complete c.reserve_tag.new.heap i.ready_for None
    c.self.invariant c.index_mut-at.ensures.value (ap port_items c.reserve.ensures.same) c.reserve_tag.ensures.same (λ r s e at. cc) (λ r e. cc)

pub returns-in_err-reserve-clause-same : goal.returns-in_err-reserve-clause-same
returns-in_err-reserve-clause-same c =
    let i = c.self.inside in
    let made : List (List Item) → RoomyKeyJoin = λ iss. record { ports = iss; ready_for = None } in
    let same = reserved-items i.ports.items c.args.port c.index_mut-at.result.now c.reserve.new.self i.complete i.complete None None c.index_mut-at.ensures.value (ap port_items c.reserve.ensures.same) in
    ap made (same ∙ ap (λ (v : RoomyKeyJoin). v.ports) c.self.view_is)

pub invariant_of-self-2 : goal.invariant_of-self-2
invariant_of-self-2 c =
    let i = c.self.inside in
    keeps-reserved i.ports.items c.args.port c.index_mut-at.result.now c.reserve.new.self i.complete c.reserve_tag.new.heap i.ready_for (Some (c.args.port, c.args.tag))
    c.self.invariant c.index_mut-at.ensures.value (ap port_items c.reserve.ensures.same) c.reserve_tag.ensures.same
    (ready-set i.ports.items c.args.port c.args.tag c.reserve.new.self c.in_ok-reserve.ensures.ok) (λ r e. c.in_ok-reserve_tag.ensures.ok)

pub returns-clause-same : goal.returns-clause-same
returns-clause-same c =
    let i = c.self.inside in
    let made : List (List Item) → RoomyKeyJoin = λ iss. record { ports = iss; ready_for = Some (c.args.port, c.args.tag) } in
    let same = reserved-items i.ports.items c.args.port c.index_mut-at.result.now c.reserve.new.self i.complete i.complete None None c.index_mut-at.ensures.value (ap port_items c.reserve.ensures.same) in
    ap made (same ∙ ap (λ (v : RoomyKeyJoin). v.ports) c.self.view_is)
