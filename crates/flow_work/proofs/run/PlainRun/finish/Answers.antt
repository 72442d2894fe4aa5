use Rattle.std.proofs.Common.{subst}
use Rattle.flow_work.specs.Runs.{Run, IsCursorOf, with_event}
use Rattle.flow_work.proofs.CursorLemmas.{cursor-stays}
use Rattle.flow_work.proofs.run.PlainRun.finish.Goals as goal

pub record-requires-clause-cursor : goal.record-requires-clause-cursor
record-requires-clause-cursor g c =
    let r : Run = record { shape = c.self.inside.shape.now; callers = c.self.inside.callers.now; items = c.self.inside.items; events = c.self.inside.events; journal = c.self.inside.journal.items } in
    subst (λ (r : Run). IsCursorOf (with_event r c.in-Ok.e) c.self.inside.caller c.self.inside.step) c.self.view_is (cursor-stays r c.self.inside.caller c.self.inside.step c.in-Ok.e c.in-Ok.ensures.apart c.self.invariant.cursor)
