use Rattle.std.proofs.Common.{ap, ◌∙◌, arith}
use Rattle.flow_crew.proofs.Lists.{one-given, one-shorter}
use Rattle.flow_crew.proofs.parts.seat_callers.Goals as goal

pub loop-caller-preserved : goal.loop-caller-preserved
loop-caller-preserved g c =
    let h = c.loop-caller.invariant in
    let shorter = one-shorter c.loop-caller.callers.items c.pop.new.self.items c.in-Some.caller c.in-Some.ensures.items in
    let more = ap (λ r. r.items) c.push_reserved.ensures in
    let room = ap (λ r. r.spare) c.push_reserved.ensures in
    let works = ap (λ r. r.items) c.push_reserved-in-Some.ensures in
    let rooms = ap (λ r. r.spare) c.push_reserved-in-Some.ensures in
    record {
      callers = one-given (λ c. c.chair) c.loop-caller.seats.callers.items c.push_reserved.new.self.items c.loop-caller.callers.items c.pop.new.self.items c.in-Some.caller c.in-Some.ensures.items more ∙ h.callers;
      workers = one-given (λ c. c.worker.chair) c.loop-caller.seats.workers.items c.push_reserved-in-Some.new.self.items c.loop-caller.callers.items c.pop.new.self.items c.in-Some.caller c.in-Some.ensures.items works ∙ h.workers;
      few = omega (arith, h.few, shorter, room);
      room = omega (arith, h.room, shorter, rooms);
    }
