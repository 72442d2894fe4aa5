use Rattle.std.proofs.Common.{sym, ap, ◌∙◌, subst}
use Rattle.flow_body.specs.Shelves.{meanings_of_shelf}
use Rattle.flow_work.specs.Tasks.{with_journal}
use Rattle.flow_work.specs.Refusals.{IsRefused}
use Rattle.flow_work.specs.Plain.{run_of}
use Rattle.flow_work.proofs.PromiseLemmas.{leaves-nothing, leaves-limit}
use Rattle.flow_work.proofs.plain.run_graph.Goals as goal

pub returns-in-Err-Limit-clause-leaves : goal.returns-in-Err-Limit-clause-leaves
returns-in-Err-Limit-clause-leaves g c =
    let before = c.run-outcome.ensures.same in
    let here = c.certify.ensures in
    let parts = c.into_parts-journal.ensures in
    let is = before ∙ ap (λ r. with_journal r c.run-outcome.new.self.journal) c.in-Ok.ensures ∙ ap (run_of c.args.shape.now c.args.callers.now c.args.items c.args.events) (sym parts.journal) in
    let m = (meanings_of_shelf (λ n. (goal.Body-dyn g (n.body.vtable, n.body.value)).pure n.body.value) (λ n. (goal.Body-dyn g (n.body.vtable, n.body.value)).single n.body.value) (λ n. (goal.Body-dyn g (n.body.vtable, n.body.value)).out n.body.value) c.args.shelf.now.bodies.items) in
    rw (c.replace.ensures.after) (leaves-limit m c.run-outcome.new.self (run_of c.args.shape.now c.args.callers.now c.args.items c.args.events c.into_parts-journal.result.0) c.in-Err-Limit.e c.into_parts-journal.result.1 is here.runnable here.journal here.scripts here.waits c.run-outcome.ensures.kept (subst (IsRefused m c.run-outcome.new.self) c.in-Err-Limit.field-0-is c.in-Err-Limit.ensures.refused) parts.nodes)

pub returns-in-Err-clause-leaves : goal.returns-in-Err-clause-leaves
returns-in-Err-clause-leaves g c = leaves-nothing (meanings_of_shelf (λ n. (goal.Body-dyn g (n.body.vtable, n.body.value)).pure n.body.value) (λ n. (goal.Body-dyn g (n.body.vtable, n.body.value)).single n.body.value) (λ n. (goal.Body-dyn g (n.body.vtable, n.body.value)).out n.body.value) c.args.shelf.now.bodies.items) c.args.shape.now c.args.callers.now c.args.items c.args.events c.args.kept.now.journal c.args.kept.now.refused c.requires.runnable c.requires.fresh.journal c.requires.fresh.refused
