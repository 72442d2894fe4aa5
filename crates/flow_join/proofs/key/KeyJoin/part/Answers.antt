use Rattle.std.proofs.Common.{◌≡◌, ◌∙◌, ◌<◌, List, Option, ℕ, None, Some, map, length, slice_get, ap, sym, subst, arith, heap_items}
use Rattle.std.proofs.lemmas.List.{length-map}
use Rattle.flow_item.specs.declared.item.Item.{Item}
use Rattle.flow_machine.specs.Offers.{matching_parts}
use Rattle.flow_machine.specs.WishEvents.{where_some}
use Rattle.flow_join.specs.Keys.{RoomyKeyJoin, port_items, next_key_parts}
use Rattle.flow_join.proofs.Matching.{next-tag, part-of}
use Rattle.flow_join.proofs.key.KeyJoin.part.Goals as goal

pub returns-in-Some : goal.returns-in-Some
returns-in-Some c =
    let i = c.self.inside in
    let inside = subst (λ (v : RoomyKeyJoin). c.args.port < length v.ports) (sym c.self.view_is) c.requires in
    let within : c.args.port < length i.ports.items = omega (arith, length-map i.ports.items port_items) in
    c.part.ensures
    ∙ sym (part-of i.ports.items (heap_items i.complete) c.self.invariant.some c.self.invariant.counted c.in-Some.tag c.in-Some.ensures c.args.port c.index-at.result.now within c.index-at.ensures)
    ∙ ap (λ (v : RoomyKeyJoin). where_some (next_key_parts v) (λ parts. slice_get parts c.args.port)) c.self.view_is

pub returns-in-None : goal.returns-in-None
returns-in-None c =
    let i = c.self.inside in
    ap (λ (o : Option ℕ). where_some (matching_parts (map port_items i.ports.items) o) (λ parts. slice_get parts c.args.port))
    (sym (next-tag i.ports.items (heap_items i.complete) c.self.invariant.some c.self.invariant.counted None c.in-None.ensures))
    ∙ ap (λ (v : RoomyKeyJoin). where_some (next_key_parts v) (λ parts. slice_get parts c.args.port)) c.self.view_is
