use Rattle.std.proofs.Common.{◌≡◌, length, Some, subst, sym}
use Rattle.std.specs.Prelude.{slice_get}
use Rattle.flow_doc.specs.Fits.{kind_fits}
use Rattle.flow_node.proofs.HoldLemmas.{all_at}
use Rattle.flow_work.specs.Runs.{Run}
use Rattle.flow_work.specs.Tasks.{Runs}
use Rattle.flow_work.proofs.FinishLemmas.{running, runs-of, keeps-at-view}
use Rattle.flow_work.proofs.run.PlainRun.run_body.Goals as goal

pub answer-requires-clause-fits : goal.answer-requires-clause-fits
answer-requires-clause-fits g c = all_at (kind_fits (length c.args.shelf.now.bodies.items)) c.args.self.now.shape.nodes c.args.node c.job_kind-kind.result.now c.requires.bodies c.job_kind-kind.ensures

pub answer-requires-clause-body : goal.answer-requires-clause-body
answer-requires-clause-body g c =
    let r : Run = record { shape = c.self.inside.shape.now; callers = c.self.inside.callers.now; items = c.self.inside.items; events = c.self.inside.events; journal = c.self.inside.journal.items } in
    let kept = c.self.invariant in
    let runs = subst (λ (r : Run). Runs r c.args.node c.args.item) (sym c.self.view_is) c.requires.runs in
    runs-of r c.args.node c.args.item (running r c.args.node c.args.item kept.runnable kept.journal runs) c.job_kind-kind.result.now (subst (λ (r : Run). slice_get r.shape.nodes c.args.node ≡ Some c.job_kind-kind.result.now) (sym c.self.view_is) c.job_kind-kind.ensures)

pub returns : goal.returns
returns g c =
    let r : Run = record { shape = c.self.inside.shape.now; callers = c.self.inside.callers.now; items = c.self.inside.items; events = c.self.inside.events; journal = c.self.inside.journal.items } in
    let kept = c.self.invariant in
    let runs = subst (λ (r : Run). Runs r c.args.node c.args.item) (sym c.self.view_is) c.requires.runs in
    let s = running r c.args.node c.args.item kept.runnable kept.journal runs in
    keeps-at-view _ r c.args.self.now c.args.node c.args.item c.in_ok-outs.outs c.self.view_is s c.job_kind-kind.result.now c.job_item-item.result.now c.job_kind-kind.ensures c.job_item-item.ensures c.in_ok-outs.ensures
