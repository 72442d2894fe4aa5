use Rattle.std.proofs.Common.{◌≡◌, ◌∙◌, ap, is_some}
use Rattle.std.specs.List.{list_all}
use Rattle.flow_machine.specs.Offers.{fronts}
use Rattle.flow_join.specs.Queues.{RoomyQueueJoin, is_filled}
use Rattle.flow_join.proofs.Rings.{all-filled}
use Rattle.flow_join.proofs.queue.QueueJoin.ready.Goals as goal

pub returns : goal.returns
returns c = c.are_filled.ensures ∙ ap (list_all is_filled) c.deref.ensures.value ∙ all-filled c.self.inside.ports.items ∙ ap (λ (v : RoomyQueueJoin). is_some (fronts v.ports)) c.self.view_is
