use Rattle.std.proofs.Common.{◌≡◌, Option, Some, cond, sym, ap, ◌∙◌, subst, arith}
use Rattle.flow_machine.specs.State.{NodeState, PlacedNode}
use Rattle.flow_node.specs.NodeViews.{first_ready}
use Rattle.flow_line.specs.declared.view.About.{About}
use Rattle.flow_book.specs.declared.machine.Run.{Run}
use Rattle.flow_book.specs.Jobs.{IsJob, has_turns, turn_item, next_item}
use Rattle.flow_book.proofs.Ended.{job-facts}
use Rattle.flow_book.proofs.Jobs.{next-number}
use Rattle.flow_book.proofs.book.Book.job.Goals as goal

pub body_of-requires : goal.body_of-requires
body_of-requires g c =
    (job-facts c.args.post.now.chair c.args.w.now c.args.post.now.node (record { setup = c.args.self.now.run; items = c.args.self.now.items; events = c.args.self.now.events })
    c.number-node.result c.in-Worker.field-0 c.args.item c.in-Some.kind.now c.in-Some.ensures.value c.known.ensures.replay c.number-node.ensures (sym c.party.ensures ∙ c.in-Worker.is) (c.requires.about ∙ c.requires.of)
    (c.args.self.now.valid, c.args.self.now.built) (sym c.requires.about) (sym c.requires.seen) c.known.ensures.legal c.known.ensures.own c.own_len.ensures.own c.requires.worker c.requires.wish).0.body

pub job_item-requires-clause-turn : goal.job_item-requires-clause-turn
job_item-requires-clause-turn g c = λ on.
    let f = job-facts c.args.post.now.chair c.args.w.now c.args.post.now.node (record { setup = c.args.self.now.run; items = c.args.self.now.items; events = c.args.self.now.events })
    c.number-node.result c.in-Worker.field-0 c.args.item c.in-Some.kind.now c.in-Some.ensures.value c.known.ensures.replay c.number-node.ensures (sym c.party.ensures ∙ c.in-Worker.is) (c.requires.about ∙ c.requires.of)
    (c.args.self.now.valid, c.args.self.now.built) (sym c.requires.about) (sym c.requires.seen) c.known.ensures.legal c.known.ensures.own c.own_len.ensures.own c.requires.worker c.requires.wish in
    let turn = f.0.turn on in
    let most = f.2 in
    let short = c.args.self.now.short in
    omega (arith, turn, most, short)

pub job_item-requires-clause-there : goal.job_item-requires-clause-there
job_item-requires-clause-there g c = λ off none.
    let f = job-facts c.args.post.now.chair c.args.w.now c.args.post.now.node (record { setup = c.args.self.now.run; items = c.args.self.now.items; events = c.args.self.now.events })
    c.number-node.result c.in-Worker.field-0 c.args.item c.in-Some.kind.now c.in-Some.ensures.value c.known.ensures.replay c.number-node.ensures (sym c.party.ensures ∙ c.in-Worker.is) (c.requires.about ∙ c.requires.of)
    (c.args.self.now.valid, c.args.self.now.built) (sym c.requires.about) (sym c.requires.seen) c.known.ensures.legal c.known.ensures.own c.own_len.ensures.own c.requires.worker c.requires.wish in
    f.0.there off (ap (λ (u : PlacedNode). first_ready u.state.part) (sym c.node.ensures.node) ∙ none)

pub returns-in-Ok-job_item-clause-job : goal.returns-in-Ok-job_item-clause-job
returns-in-Ok-job_item-clause-job g c =
    let f = job-facts c.args.post.now.chair c.args.w.now c.args.post.now.node (record { setup = c.args.self.now.run; items = c.args.self.now.items; events = c.args.self.now.events })
    c.number-node.result c.in-Worker.field-0 c.args.item c.in-Some.kind.now c.in-Some.ensures.value c.known.ensures.replay c.number-node.ensures (sym c.party.ensures ∙ c.in-Worker.is) (c.requires.about ∙ c.requires.of)
    (c.args.self.now.valid, c.args.self.now.built) (sym c.requires.about) (sym c.requires.seen) c.known.ensures.legal c.known.ensures.own c.own_len.ensures.own c.requires.worker c.requires.wish in
    let item : next_item c.number-node.result c.args.post.now.node.state.part ≡ Some c.in-Ok-job_item.item =
    sym f.0.item ∙ (ap (λ (u : PlacedNode). cond (has_turns c.in-Some.kind.now) (Some (turn_item c.number-node.result c.args.item)) (first_ready u.state.part)) (sym c.node.ensures.node) ∙ c.in-Ok-job_item.ensures) in
    subst (λ (o : Option (About Run)). IsJob o c.args.post.now.chair.seen (record { node = c.number-node.result; item = c.in-Ok-job_item.item; body = c.in-Ok.body })) (sym (c.requires.about ∙ c.requires.of))
    (c.in-Some.kind.now, sym c.in-Some.ensures.value, c.in-Ok.ensures, ap (λ (s : NodeState). next_item c.number-node.result s.part) (sym f.3) ∙ item)

pub returns-in-Ok-job_item-clause-item : goal.returns-in-Ok-job_item-clause-item
returns-in-Ok-job_item-clause-item g c =
    let f = job-facts c.args.post.now.chair c.args.w.now c.args.post.now.node (record { setup = c.args.self.now.run; items = c.args.self.now.items; events = c.args.self.now.events })
    c.number-node.result c.in-Worker.field-0 c.args.item c.in-Some.kind.now c.in-Some.ensures.value c.known.ensures.replay c.number-node.ensures (sym c.party.ensures ∙ c.in-Worker.is) (c.requires.about ∙ c.requires.of)
    (c.args.self.now.valid, c.args.self.now.built) (sym c.requires.about) (sym c.requires.seen) c.known.ensures.legal c.known.ensures.own c.own_len.ensures.own c.requires.worker c.requires.wish in
    let item : next_item c.number-node.result c.args.post.now.node.state.part ≡ Some c.in-Ok-job_item.item =
    sym f.0.item ∙ (ap (λ (u : PlacedNode). cond (has_turns c.in-Some.kind.now) (Some (turn_item c.number-node.result c.args.item)) (first_ready u.state.part)) (sym c.node.ensures.node) ∙ c.in-Ok-job_item.ensures) in
    next-number c.number-node.result c.args.post.now.node.state.part c.args.item c.in-Ok-job_item.item f.1 item
