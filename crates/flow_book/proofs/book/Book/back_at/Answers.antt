use Rattle.std.proofs.Common.{◌≡◌, true, Some, sym, ap, ◌∙◌, subst}
use Rattle.flow_item.specs.declared.event.Party.TheVariants.{Node}
use Rattle.flow_item.specs.Events.{parties_of}
use Rattle.flow_item.specs.Legal.{projection}
use Rattle.flow_machine.specs.Enabled.{has_ticket}
use Rattle.flow_book.specs.Jobs.{is_asked}
use Rattle.flow_book.specs.Posts.{Posted, replayed}
use Rattle.flow_book.proofs.Ended.{asked-ticket, brings-is}
use Rattle.flow_book.proofs.book.Book.back_at.Goals as goal

pub make_back-requires-clause-ticket : goal.make_back-requires-clause-ticket
make_back-requires-clause-ticket g c = λ κs lives.
    let m = c.meet.ensures in
    let replay : replayed c.meet.new.self.chair ≡ Some c.meet.new.self.node = subst (λ (s : Posted). replayed s.chair ≡ Some s.node) c.deref.ensures c.known.ensures.replay in
    let own : c.meet.new.self.chair.own ≡ projection parties_of c.meet.new.self.chair.party c.meet.new.self.chair.seen =
    subst (λ (s : Posted). s.chair.own ≡ projection parties_of s.chair.party s.chair.seen) c.deref.ensures c.known.ensures.own in
    let party : c.meet.new.self.chair.party ≡ Node c.args.ask.now.node = m.same.1 ∙ (ap (λ (s : Posted). s.chair.party) c.deref_mut.ensures.value ∙ c.post-post.ensures) in
    let asked : is_asked c.args.self.now.run.shape c.meet.new.self.chair.seen c.args.ask.now ≡ true =
    sym (c.is_asked.ensures ∙ ap (λ (s : Posted). is_asked c.args.self.now.run.shape s.chair.seen c.args.ask.now) c.deref-2.ensures) ∙ c.if-not-is_asked.false in
    ap (λ (s : Posted). has_ticket s.node.state.part c.args.ask.now.ticket) c.deref_mut-2.ensures.value
    ∙ asked-ticket c.meet.new.self.chair c.meet.new.self.node (record { setup = c.args.self.now.run; items = c.args.self.now.items; events = c.args.self.now.events }) c.args.ask.now replay party (m.about.2 ∙ c.requires.of) own asked

pub returns-clause-stopped : goal.returns-clause-stopped
returns-clause-stopped g c =
    let m = c.meet.ensures in
    let replay : replayed c.meet.new.self.chair ≡ Some c.meet.new.self.node = subst (λ (s : Posted). replayed s.chair ≡ Some s.node) c.deref.ensures c.known.ensures.replay in
    let own : c.meet.new.self.chair.own ≡ projection parties_of c.meet.new.self.chair.party c.meet.new.self.chair.seen =
    subst (λ (s : Posted). s.chair.own ≡ projection parties_of s.chair.party s.chair.seen) c.deref.ensures c.known.ensures.own in
    let party : c.meet.new.self.chair.party ≡ Node c.args.ask.now.node = m.same.1 ∙ (ap (λ (s : Posted). s.chair.party) c.deref_mut.ensures.value ∙ c.post-post.ensures) in
    let asked : is_asked c.args.self.now.run.shape c.meet.new.self.chair.seen c.args.ask.now ≡ true =
    sym (c.is_asked.ensures ∙ ap (λ (s : Posted). is_asked c.args.self.now.run.shape s.chair.seen c.args.ask.now) c.deref-2.ensures) ∙ c.if-not-is_asked.false in
    brings-is c.args.self.now.run.shape c.args.w.now c.meet.new.c c.deref_mut-2.result.now.chair c.make_back.new.w c.args.ask.now c.args.outs c.in-Err.field-0.stop c.in-Err.ensures.refused.0
    (record { party = m.rest.1; about = m.about.0; own = m.rest.0; seen = m.prefix.0; looks = m.rest.3 }, m.rest.2)
    (ap (λ (s : Posted). s.chair.party) c.deref_mut-2.ensures.value ∙ party)
    (subst (λ (s : Posted). s.chair.own ≡ projection parties_of s.chair.party s.chair.seen) (sym c.deref_mut-2.ensures.value) own)
    (ap (λ (s : Posted). is_asked c.args.self.now.run.shape s.chair.seen c.args.ask.now) c.deref_mut-2.ensures.value ∙ asked) c.in-Err.ensures.refused.1 c.in-Err.ensures.own
