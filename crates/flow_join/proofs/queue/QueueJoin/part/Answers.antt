use Rattle.std.proofs.Common.{◌≡◌, ◌∙◌, ◌<◌, sym, ap, subst, is_some, slice_get, length, true, arith}
use Rattle.std.proofs.lemmas.List.{length-map}
use Rattle.flow_machine.specs.Offers.{fronts}
use Rattle.flow_machine.specs.WishEvents.{where_some}
use Rattle.flow_join.specs.Queues.{RoomyQueueJoin, ring_items}
use Rattle.flow_join.proofs.Rings.{part-at}
use Rattle.flow_join.proofs.queue.QueueJoin.part.Goals as goal

pub returns-then-ready : goal.returns-then-ready
returns-then-ready c =
    let ready = subst (λ (v : RoomyQueueJoin). is_some (fronts v.ports) ≡ true) (sym c.self.view_is) (sym c.if-ready.ensures) in
    let inside = subst (λ (v : RoomyQueueJoin). c.args.port < length v.ports) (sym c.self.view_is) c.requires in
    let within : c.args.port < length c.self.inside.ports.items = omega (arith, length-map c.self.inside.ports.items ring_items) in
    c.front_of.ensures ∙ sym (part-at c.self.inside.ports.items c.args.port c.index.result.now ready within c.index.ensures)
    ∙ ap (λ (v : RoomyQueueJoin). where_some (fronts v.ports) (λ parts. slice_get parts c.args.port)) c.self.view_is
