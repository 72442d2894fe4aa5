use Rattle.std.proofs.Common.{ap, ◌∙◌, arith}
use Rattle.flow_crew.proofs.Lists.{one-given, one-shorter}
use Rattle.flow_crew.proofs.parts.seat_workers.Goals as goal

pub loop-worker-preserved : goal.loop-worker-preserved
loop-worker-preserved g c =
    let h = c.loop-worker.invariant in
    let shorter = one-shorter c.loop-worker.workers.items c.pop.new.self.items c.in-Some.worker c.in-Some.ensures.items in
    let more = ap (λ r. r.items) c.push_reserved.ensures in
    let room = ap (λ r. r.spare) c.push_reserved.ensures in
    record {
      workers = one-given (λ w. w.chair) c.loop-worker.seats.workers.items c.push_reserved.new.self.items c.loop-worker.workers.items c.pop.new.self.items c.in-Some.worker c.in-Some.ensures.items more ∙ h.workers;
      spare = omega (arith, h.spare, h.few, shorter, room);
      few = omega (arith, h.few, shorter, room);
      callers = h.callers;
    }
