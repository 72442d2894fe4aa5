use Rattle.std.proofs.Common.{ap, sym, ◌∙◌, subst}
use Rattle.std.specs.Option.{is_some}
use mathlib.Core.List.{IsPrefix}
use Rattle.flow_book.proofs.Stored.{passed-on, shows-stored, keeps-shows}
use Rattle.flow_book.proofs.stopper.Stopper.stopped.Goals as goal

pub invariant_of-self : goal.invariant_of-self
invariant_of-self g c =
    let m = c.look2.ensures in
    record { reached = λ h. passed-on c.args.self.now.chair.about c.look2.new.b.about c.args.self.now.chair.seen c.look2.new.b.seen m.b_rest.2 m.b_seen (c.args.self.now.reached h) }

pub returns-in-Some-clause-shown : goal.returns-in-Some-clause-shown
returns-in-Some-clause-shown g c =
    let m = c.look2.ensures in
    shows-stored c.args.self.now.chair c.look2.new.a c.args.self.now.first c.in-Some.stop c.args.self.now.reached c.in-Some.is
    (m.a_rest.2 ∙ m.about) (subst (λ l. IsPrefix c.args.self.now.chair.seen l) m.both m.b_seen)

pub returns-then-keeps-clause-shown : goal.returns-then-keeps-clause-shown
returns-then-keeps-clause-shown g c =
    let m = c.look2.ensures in
    keeps-shows c.args.c.now c.look2.new.a (sym (ap is_some m.a_rest.3) ∙ (sym c.keeps.ensures ∙ c.if-keeps.true)) c.requires.kept m.a_rest.2 m.a_seen
