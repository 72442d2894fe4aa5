use Rattle.std.proofs.Common.{◌≡◌, true, Some, sym, ap, ◌∙◌, subst}
use Rattle.flow_item.specs.declared.event.Event.{Event}
use Rattle.flow_item.specs.declared.event.Event.TheVariants as E
use Rattle.flow_item.specs.declared.event.Party.{Party}
use Rattle.flow_machine.specs.State.{PlacedNode}
use Rattle.flow_machine.specs.Machine.{Task}
use Rattle.flow_book.specs.Answers.{IsDone, IsHalted, Was, event_back}
use Rattle.flow_book.specs.Callers.{number_of}
use Rattle.flow_book.specs.Jobs.{answers_about}
use Rattle.flow_book.proofs.Ended.{end-served}
use Rattle.flow_book.proofs.post.Post.make_end.Goals as goal

pub make_by-requires-clause-step : goal.make_by-requires-clause-step
make_by-requires-clause-step g c = λ κs lives.
    (end-served c.args.self.now.chair c.args.w.now c.args.self.now.node c.number-node.result c.in-Worker.worker c.args.item c.made-first.result c.args.outs
    c.known.ensures.replay c.number-node.ensures (sym c.party.ensures ∙ c.in-Worker.is) c.requires.runs c.requires.about c.requires.seen c.known.ensures.legal c.known.ensures.own c.own_len.ensures.own c.requires.worker
    (c.requires.task ∙ ap (λ (p : Party). let t : Task = Some (number_of p, c.args.item) in t) c.number-node.ensures) (subst (λ (p : Party). answers_about c.args.self.now.chair.about (number_of p) c.args.outs ≡ true) c.number-node.ensures c.requires.outs) (c.made-first.ensures ∙ ap (λ (u : PlacedNode). u.state.made) c.node.ensures.node)).0

pub make_by-requires-clause-c_step : goal.make_by-requires-clause-c_step
make_by-requires-clause-c_step g c = λ κs lives.
    (end-served c.args.self.now.chair c.args.w.now c.args.self.now.node c.number-node.result c.in-Worker.worker c.args.item c.made-first.result c.args.outs
    c.known.ensures.replay c.number-node.ensures (sym c.party.ensures ∙ c.in-Worker.is) c.requires.runs c.requires.about c.requires.seen c.known.ensures.legal c.known.ensures.own c.own_len.ensures.own c.requires.worker
    (c.requires.task ∙ ap (λ (p : Party). let t : Task = Some (number_of p, c.args.item) in t) c.number-node.ensures) (subst (λ (p : Party). answers_about c.args.self.now.chair.about (number_of p) c.args.outs ≡ true) c.number-node.ensures c.requires.outs) (c.made-first.ensures ∙ ap (λ (u : PlacedNode). u.state.made) c.node.ensures.node)).1

pub returns-in-Ok-clause-ended : goal.returns-in-Ok-clause-ended
returns-in-Ok-clause-ended g c =
    let worker = ap number_of (sym c.in-Worker.is ∙ c.party.ensures) in
    let node = ap number_of (sym c.number-node.ensures) in
    let same : E.End c.in-Worker.worker c.number-node.result c.args.item c.made-first.result c.args.outs ≡ E.End (number_of c.args.w.now.party) (number_of c.args.self.now.chair.party) c.args.item c.made-first.result c.args.outs =
    λ x. E.End (worker x) (node x) c.args.item c.made-first.result c.args.outs in
    (c.made-first.result, subst (λ (e : Event). IsDone c.args.w.now e c.make_by.new.c) same c.in-Ok.ensures.made)

pub returns-in-Err-clause-refused : goal.returns-in-Err-clause-refused
returns-in-Err-clause-refused g c =
    let worker = ap number_of (sym c.in-Worker.is ∙ c.party.ensures) in
    let node = ap number_of (sym c.number-node.ensures) in
    let same : E.End c.in-Worker.worker c.number-node.result c.args.item c.made-first.result c.args.outs ≡ E.End (number_of c.args.w.now.party) (number_of c.args.self.now.chair.party) c.args.item c.made-first.result c.args.outs =
    λ x. E.End (worker x) (node x) c.args.item c.made-first.result c.args.outs in
    (c.made-first.result, subst (λ (e : Event). IsHalted c.args.w.now (Was e) c.make_by.new.c c.in-Err.refused.stop) same c.in-Err.ensures.stopped, c.in-Err.ensures.back ∙ ap (event_back c.args.w.now.kept c.in-Err.refused.stop) same)
