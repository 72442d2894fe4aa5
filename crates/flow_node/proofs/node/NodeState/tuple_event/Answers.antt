use Rattle.std.proofs.Common.{sym, ap, ◌∙◌}
use Rattle.flow_machine.specs.WishEvents.{tuple_event}
use Rattle.flow_machine.specs.Offers.{next_tuple}
use Rattle.flow_node.specs.Readied.{Readied}
use Rattle.flow_node.specs.Kept.{place_of, part_of}
use Rattle.flow_node.proofs.NodeLemmas.{tuple-event-is, formed-event, no-event}
use Rattle.flow_node.proofs.node.NodeState.tuple_event.Goals as goal

pub returns-in-Some : goal.returns-in-Some
returns-in-Some c =
    let b = c.self.inside.base in
    let p = c.self.inside.part in
    formed-event b.node b.made (next_tuple (place_of b p) (part_of p)) c.in-Some.parts (sym c.in-Some.is ∙ c.in_ok-found.ensures)
    ∙ sym (tuple-event-is b p) ∙ ap (λ (v : Readied). tuple_event v.node v.node.state.part) c.self.view_is

pub returns-in-None : goal.returns-in-None
returns-in-None c =
    let b = c.self.inside.base in
    let p = c.self.inside.part in
    no-event b.node b.made (next_tuple (place_of b p) (part_of p)) (sym c.in-None.is ∙ c.in_ok-found.ensures)
    ∙ sym (tuple-event-is b p) ∙ ap (λ (v : Readied). tuple_event v.node v.node.state.part) c.self.view_is
