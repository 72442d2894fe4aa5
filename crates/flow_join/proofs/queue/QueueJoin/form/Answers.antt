use Rattle.std.proofs.Common.{◌≡◌, ◌∙◌, ap, sym, map, length}
use Rattle.std.proofs.lemmas.List.{length-map}
use Rattle.flow_item.specs.Lists.{rest}
use Rattle.flow_join.specs.Queues.{ring_items}
use Rattle.flow_join.proofs.Rings.{keeps-after}
use Rattle.flow_join.proofs.queue.QueueJoin.form.Goals as goal

pub invariant_of-self : goal.invariant_of-self
invariant_of-self c =
    let was = c.self.inside.ports.items in
    let same : length c.take_fronts.new.rings.items ≡ length was
    = sym (length-map c.take_fronts.new.rings.items ring_items) ∙ ap length c.take_fronts.ensures.rings ∙ length-map (map ring_items was) rest ∙ length-map was ring_items in
    keeps-after _ _ c.self.inside.spare c.self.invariant same c.take_fronts.ensures.room
