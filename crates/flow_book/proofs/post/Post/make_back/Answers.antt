use Rattle.std.proofs.Common.{◌≡◌, sym, ap, ◌∙◌, subst}
use Rattle.flow_item.specs.declared.event.Event.{Event}
use Rattle.flow_item.specs.declared.event.Event.TheVariants as E
use Rattle.flow_machine.specs.State.{PlacedNode}
use Rattle.flow_book.specs.Answers.{IsDone, IsPlaced, IsHalted, Was, event_back}
use Rattle.flow_book.specs.Callers.{number_of}
use Rattle.flow_book.proofs.Ended.{back-served}
use Rattle.flow_book.proofs.post.Post.make_back.Goals as goal

pub make_by-requires-clause-step : goal.make_by-requires-clause-step
make_by-requires-clause-step g c = λ κs lives.
    (back-served c.args.self.now.chair c.args.w.now c.args.self.now.node c.number-node.result c.in-Worker.worker c.args.ticket c.made-first.result c.args.outs
    c.known.ensures.replay c.number-node.ensures (sym c.party.ensures ∙ c.in-Worker.is) c.requires.runs c.requires.about c.requires.seen c.known.ensures.legal c.known.ensures.own c.own_len.ensures.own c.requires.worker
    c.requires.ticket (c.made-first.ensures ∙ ap (λ (u : PlacedNode). u.state.made) c.node.ensures.node)).0

pub make_by-requires-clause-c_step : goal.make_by-requires-clause-c_step
make_by-requires-clause-c_step g c = λ κs lives.
    (back-served c.args.self.now.chair c.args.w.now c.args.self.now.node c.number-node.result c.in-Worker.worker c.args.ticket c.made-first.result c.args.outs
    c.known.ensures.replay c.number-node.ensures (sym c.party.ensures ∙ c.in-Worker.is) c.requires.runs c.requires.about c.requires.seen c.known.ensures.legal c.known.ensures.own c.own_len.ensures.own c.requires.worker
    c.requires.ticket (c.made-first.ensures ∙ ap (λ (u : PlacedNode). u.state.made) c.node.ensures.node)).1

pub returns-in-Ok-clause-brought : goal.returns-in-Ok-clause-brought
returns-in-Ok-clause-brought g c =
    let worker = ap number_of (sym c.in-Worker.is ∙ c.party.ensures) in
    let node = ap number_of (sym c.number-node.ensures) in
    let same : E.Back c.in-Worker.worker c.number-node.result c.args.ticket c.made-first.result c.args.outs ≡ E.Back (number_of c.args.w.now.party) (number_of c.args.self.now.chair.party) c.args.ticket c.made-first.result c.args.outs =
    λ x. E.Back (worker x) (node x) c.args.ticket c.made-first.result c.args.outs in
    (c.made-first.result, subst (λ (e : Event). IsDone c.args.w.now e c.make_by.new.c) same c.in-Ok.ensures.made, subst (λ (e : Event). IsPlaced c.args.self.now.chair e c.make_by.new.c) same c.in-Ok.ensures.placed)

pub returns-in-Err-clause-refused : goal.returns-in-Err-clause-refused
returns-in-Err-clause-refused g c =
    let worker = ap number_of (sym c.in-Worker.is ∙ c.party.ensures) in
    let node = ap number_of (sym c.number-node.ensures) in
    let same : E.Back c.in-Worker.worker c.number-node.result c.args.ticket c.made-first.result c.args.outs ≡ E.Back (number_of c.args.w.now.party) (number_of c.args.self.now.chair.party) c.args.ticket c.made-first.result c.args.outs =
    λ x. E.Back (worker x) (node x) c.args.ticket c.made-first.result c.args.outs in
    (c.made-first.result, subst (λ (e : Event). IsHalted c.args.w.now (Was e) c.make_by.new.c c.in-Err.refused.stop) same c.in-Err.ensures.stopped, c.in-Err.ensures.back ∙ ap (event_back c.args.w.now.kept c.in-Err.refused.stop) same)
