use Rattle.std.proofs.Common.{[], map, ap, ◌∙◌}
use Rattle.flow_crew.proofs.Lists.{seated}
use Rattle.flow_crew.proofs.parts.Parts.into_seats.Goals as goal

pub returns-clause-callers : goal.returns-clause-callers
returns-clause-callers g c =
    seated (λ k. k.chair) [] c.seat_workers.new.seats.callers.items c.seat_callers.new.seats.callers.items c.args.self.callers.items c.turn.new.list.items
    (ap (λ r. r.items) c.seat_workers.ensures.callers ∙ c.requires.empty.0) c.turn.ensures c.seat_callers.ensures.callers

pub returns-clause-workers : goal.returns-clause-workers
returns-clause-workers g c =
    let ws = c.args.self.workers.items in
    let first = seated (λ w. w.chair) [] c.args.self.seats.workers.items c.seat_workers.new.seats.workers.items ws c.turn-2.new.list.items c.requires.empty.1 c.turn-2.ensures c.seat_workers.ensures.workers in
    seated (λ k. k.worker.chair) (map (λ w. w.chair) ws) c.seat_workers.new.seats.workers.items c.seat_callers.new.seats.workers.items c.args.self.callers.items c.turn.new.list.items first c.turn.ensures c.seat_callers.ensures.workers
