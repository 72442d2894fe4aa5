use Rattle.std.proofs.Common.{◌≡◌, ap, sym, ◌∙◌}
use Rattle.flow_item.specs.declared.event.Event.TheVariants as E
use Rattle.flow_book.specs.Answers.{Was}
use Rattle.flow_book.specs.Callers.{number_of}
use Rattle.flow_book.proofs.Stops.{halted-after}
use Rattle.flow_book.proofs.book.Book.try_activate.Goals as goal

pub returns-clause-stopped : goal.returns-clause-stopped
returns-clause-stopped g c =
    let m = c.meet.ensures in
    let caller : c.in-Caller.caller ≡ number_of c.args.c.now.party = ap number_of (sym c.in-Caller.is ∙ c.party.ensures) in
    rw c.into_stop.ensures (halted-after c.args.c.now c.meet.new.c c.make_by.new.c (E.Act c.in-Caller.caller c.args.node) (Was (E.Act (number_of c.args.c.now.party) c.args.node)) c.in-Err.refused.stop
    (record { party = m.rest.1; about = m.about.0; own = m.rest.0; seen = m.prefix.0; looks = m.rest.3 }, m.rest.2)
    c.in-Err.ensures.stopped (ap (λ k. E.Act k c.args.node) caller))
