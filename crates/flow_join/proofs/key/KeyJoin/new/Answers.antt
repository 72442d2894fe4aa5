use Rattle.std.proofs.Common.{◌≡◌, ◌∙◌, List, None, [], map, ap, refl}
use Rattle.flow_item.specs.declared.item.Item.{Item}
use Rattle.flow_join.specs.Keys.{RoomyKeyJoin, port_items}
use Rattle.flow_join.proofs.Changes.{map-replicated}
use Rattle.flow_join.proofs.key.KeyJoin.new.Goals as goal

pub returns-in-Ok : goal.returns-in-Ok
returns-in-Ok c =
    let made : List (List Item) → RoomyKeyJoin = λ iss. record { ports = iss; ready_for = None } in
    ap made (ap (map port_items) c.in-Ok.ensures ∙ map-replicated c.args.ports (record { items = []; ready = None }) refl)
