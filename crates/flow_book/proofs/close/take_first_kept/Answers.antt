use Rattle.std.proofs.Common.{Some, None, refl, ap}
use Rattle.flow_book.proofs.Closing.{from-first, from-second}
use Rattle.flow_book.proofs.close.take_first_kept.Goals as goal

pub returns-in-Some : goal.returns-in-Some
returns-in-Some g c =
    let f = from-first c.args.callers.now.items c.args.workers.now.items c.take_first_kept.new.self.items (Some c.in-Some.event) c.in-Some.event c.in-Some.ensures.value refl (ap (λ r. r.items) c.in-Some.ensures.rest) in
    record { value = f.0; rest = f.1 }

pub returns-in-None : goal.returns-in-None
returns-in-None g c =
    let f = from-second c.args.callers.now.items c.args.workers.now.items c.take_first_kept.new.self.items c.take_first_kept-in-None.new.self.items None c.take_first_kept-in-None.result c.in-None.ensures.value refl (ap (λ r. r.items) c.in-None.ensures.rest) c.take_first_kept-in-None.ensures.value (ap (λ r. r.items) c.take_first_kept-in-None.ensures.rest) in
    record { value = f.0; rest = f.1 }
