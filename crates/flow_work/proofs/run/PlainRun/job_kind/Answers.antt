use Rattle.std.proofs.Common.{sym, ap, ◌∙◌, subst}
use Rattle.std.specs.Option.{option_copied}
use Rattle.flow_work.specs.Runs.{Run}
use Rattle.flow_work.specs.Tasks.{Runs}
use Rattle.flow_work.proofs.FinishLemmas.{running, never-none}
use Rattle.flow_work.proofs.run.PlainRun.job_kind.Goals as goal

pub unreachable-requires : goal.unreachable-requires
unreachable-requires c =
    let r : Run = record { shape = c.self.inside.shape.now; callers = c.self.inside.callers.now; items = c.self.inside.items; events = c.self.inside.events; journal = c.self.inside.journal.items } in
    let kept = c.self.invariant in
    let runs = subst (λ (r : Run). Runs r c.args.node c.args.item) (sym c.self.view_is) c.requires in
    let s = running r c.args.node c.args.item kept.runnable kept.journal runs in
    never-none s.kind (sym (sym c.get.ensures.value ∙ ap option_copied c.in-None.is) ∙ s.at)
