use Rattle.std.proofs.Common.{◌≡◌, true, sym, ap, subst}
use Rattle.std.specs.List.{list_all}
use Rattle.flow_pool.specs.Posts.{IsPostOf}
use Rattle.flow_book.specs.Opening.{callers_of, workers_of}
use Rattle.flow_work.specs.Runs.{is_good_step}
use Rattle.flow_work.proofs.PromiseLemmas.{can-run}
use Rattle.flow_run.proofs.Changed.{parties-of, parties-both, all-ready}
use Rattle.flow_run.proofs.run.run_named.Goals as goal

pub run_to_end-ran-requires-clause-scripts : goal.run_to_end-ran-requires-clause-scripts
run_to_end-ran-requires-clause-scripts g c = λ κs lives.
    let can = can-run (g.S.Bodies.count c.args.bodies.now) c.args.doc.now c.requires.fits c.requires.built c.requires.version in
    let run = c.in_ok-parts.ensures.run in
    (ap (λ r. r.callers) run, subst (λ r. list_all (list_all (is_good_step r.shape)) c.args.doc.now.scripts ≡ true) (sym run) can.steps)

pub run_to_end-ran-requires-clause-callers : goal.run_to_end-ran-requires-clause-callers
run_to_end-ran-requires-clause-callers g c = λ κs lives.
    parties-of (λ k. k.chair) c.in_ok-parts.parts.graph.book.run c.args.items c.args.events (callers_of c.in_ok-parts.parts.graph.book.run) c.in_ok-parts.parts.callers.items c.in_ok-parts.ensures.callers

pub run_to_end-ran-requires-clause-workers : goal.run_to_end-ran-requires-clause-workers
run_to_end-ran-requires-clause-workers g c = λ κs lives.
    parties-both (λ w. w.chair) (λ k. k.worker.chair) c.in_ok-parts.parts.graph.book.run c.args.items c.args.events (workers_of c.in_ok-parts.parts.graph.book.run) c.in_ok-parts.parts.workers.items c.in_ok-parts.parts.callers.items c.in_ok-parts.ensures.workers

pub run_to_end-ran-requires-clause-ready : goal.run_to_end-ran-requires-clause-ready
run_to_end-ran-requires-clause-ready g c = λ κs lives.
    all-ready (λ k. k.chair) (λ k. k.worker.chair) (λ k. k.worker.busy) (λ k. IsPostOf c.in_ok-parts.parts.graph.pool k.worker.post) _ c.in_ok-parts.parts.graph.book.run c.args.items c.args.events c.in_ok-parts.parts.graph.book.items c.in_ok-parts.parts.graph.book.events (callers_of c.in_ok-parts.parts.graph.book.run) c.in_ok-parts.parts.callers.items
    c.in_ok-parts.ensures.limits.0 c.in_ok-parts.ensures.limits.1 c.in_ok-parts.ensures.callers c.in_ok-parts.ensures.ready c.in_ok-parts.ensures.waiters
