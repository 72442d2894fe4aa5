use Rattle.std.proofs.Common.{◌≡◌, ◌++◌, true, false, length, map, All, sym, ap, ◌∙◌, subst, arith}
use Rattle.std.specs.List.{list_all}
use Rattle.flow_doc.specs.Fits.{kind_fits}
use Rattle.flow_pool.specs.Posts.{IsPostOf}
use Rattle.flow_book.specs.Callers.{may_call}
use Rattle.flow_crew.specs.Crew.{IsCaller, IsWorker}
use Rattle.flow_crew.proofs.Fitted.{fitted}
use Rattle.flow_crew.proofs.Lists.{left-over, all-out}
use Rattle.flow_crew.proofs.Ready.{callers-there, workers-there, callers-ready, workers-ready, all-unmap, all-parts, hired}
use Rattle.flow_crew.proofs.graph.Graph.new.Goals as goal

pub hire_callers-requires-clause-chairs : goal.hire_callers-requires-clause-chairs
hire_callers-requires-clause-chairs g c =
    let there = callers-there c.in_ok-book.book.run c.args.items c.args.events c.in_ok-book.seats.callers.items c.in_ok-book.ensures.callers in
    let count = ap (λ r. r.callers) c.in_ok-book.ensures.run in
    omega (arith, there, count)

pub hire_callers-requires-clause-workers : goal.hire_callers-requires-clause-workers
hire_callers-requires-clause-workers g c =
    let there = workers-there c.in_ok-book.book.run c.args.items c.args.events c.in_ok-book.seats.workers.items c.in_ok-book.ensures.workers in
    let count = ap (λ r. r.workers) c.in_ok-book.ensures.run in
    omega (arith, there, count)

pub hire_workers-requires-clause-chairs : goal.hire_workers-requires-clause-chairs
hire_workers-requires-clause-chairs g c =
    let there = workers-there c.in_ok-book.book.run c.args.items c.args.events c.in_ok-book.seats.workers.items c.in_ok-book.ensures.workers in
    let count = ap (λ r. r.workers) c.in_ok-book.ensures.run in
    let left = left-over (λ c. c.worker.chair) c.in_ok-book.seats.workers.items c.hire_callers.new.workers.items c.in_ok-callers.callers.items c.in_ok-callers.ensures.workers in
    omega (arith, there, count, left, c.in_ok-callers.ensures.count)

pub invariant_of-graph : goal.invariant_of-graph
invariant_of-graph g c =
    let count = ap (λ r. r.callers) c.in_ok-book.ensures.run in
    let shape = ap (λ r. r.shape) c.in_ok-book.ensures.run ∙ c.in_ok-shape.ensures in
    let nodes = ap (λ s. length s.nodes) shape in
    let fits = (fitted (g.S.Bodies.count c.args.bodies.now) c.args.doc.now c.requires.fits).shelved in
    record {
      scripted = count ∙ c.len-count.ensures;
      counted = sym count;
      pooled = c.in_ok-pool.ensures.0 ∙ (c.len-nodes.ensures ∙ sym nodes);
      marked = c.in_ok-marks.ensures ∙ (c.len-nodes.ensures ∙ sym nodes);
      built = c.in_ok-book.book.built;
      shelved = (λ i. list_all (kind_fits (c.of.ensures.count i)) ((shape i).nodes)) ∙ fits;
    }

pub returns-clause-callers : goal.returns-clause-callers
returns-clause-callers g c =
    let there = callers-there c.in_ok-book.book.run c.args.items c.args.events c.in_ok-book.seats.callers.items c.in_ok-book.ensures.callers in
    let count = ap (λ r. r.callers) c.in_ok-book.ensures.run in
    (all-out (λ c. c.chair) c.in_ok-book.seats.callers.items c.hire_callers.new.chairs.items c.in_ok-callers.callers.items c.in_ok-callers.ensures.chairs (omega (arith, there, count, c.in_ok-callers.ensures.count))).1 ∙ c.in_ok-book.ensures.callers

pub returns-clause-workers : goal.returns-clause-workers
returns-clause-workers g c =
    let there = workers-there c.in_ok-book.book.run c.args.items c.args.events c.in_ok-book.seats.workers.items c.in_ok-book.ensures.workers in
    let count = ap (λ r. r.workers) c.in_ok-book.ensures.run in
    let left = left-over (λ c. c.worker.chair) c.in_ok-book.seats.workers.items c.hire_callers.new.workers.items c.in_ok-callers.callers.items c.in_ok-callers.ensures.workers in
    let rest = (all-out (λ w. w.chair) c.hire_callers.new.workers.items c.hire_workers.new.chairs.items c.in_ok-workers.workers.items c.in_ok-workers.ensures.chairs (omega (arith, there, count, left, c.in_ok-callers.ensures.count, c.in_ok-workers.ensures.count))).1 in
    ap (λ l. l ++ map (λ c. c.worker.chair) c.in_ok-callers.callers.items) rest ∙ (sym c.in_ok-callers.ensures.workers ∙ c.in_ok-book.ensures.workers)

pub returns-clause-ready : goal.returns-clause-ready
returns-clause-ready g c =
    let run = c.in_ok-book.book.run in
    let m = g.S.Bodies.meanings c.of.result.bodies.now in
    let chairs = returns-clause-callers g c in
    all-unmap (λ c. c.chair) (λ s. IsCaller m run c.args.items c.args.events s × (may_call run s ≡ true)) c.in_ok-callers.callers.items
    (subst (λ l. All (λ s. IsCaller m run c.args.items c.args.events s × (may_call run s ≡ true)) l) (sym chairs) (callers-ready m run c.args.items c.args.events))

pub returns-clause-waiters : goal.returns-clause-waiters
returns-clause-waiters g c =
    let run = c.in_ok-book.book.run in
    let m = g.S.Bodies.meanings c.of.result.bodies.now in
    let chairs = returns-clause-workers g c in
    let all = subst (λ l. All (λ s. IsWorker m run c.args.items c.args.events s false) l) (sym chairs) (workers-ready m run c.args.items c.args.events) in
    let parts = all-parts (λ s. IsWorker m run c.args.items c.args.events s false) (map (λ w. w.chair) c.in_ok-workers.workers.items) (map (λ c. c.worker.chair) c.in_ok-callers.callers.items) all in
    hired (λ c. c.worker.chair) (λ c. c.worker.busy) (λ s b. IsWorker m run c.args.items c.args.events s b) (λ c'. IsPostOf c.in_ok-pool.pool c'.worker.post) c.in_ok-callers.callers.items parts.1 c.in_ok-callers.ensures.new

pub returns-clause-hired : goal.returns-clause-hired
returns-clause-hired g c =
    let run = c.in_ok-book.book.run in
    let m = g.S.Bodies.meanings c.of.result.bodies.now in
    let chairs = returns-clause-workers g c in
    let all = subst (λ l. All (λ s. IsWorker m run c.args.items c.args.events s false) l) (sym chairs) (workers-ready m run c.args.items c.args.events) in
    let parts = all-parts (λ s. IsWorker m run c.args.items c.args.events s false) (map (λ w. w.chair) c.in_ok-workers.workers.items) (map (λ c. c.worker.chair) c.in_ok-callers.callers.items) all in
    hired (λ w. w.chair) (λ w. w.busy) (λ s b. IsWorker m run c.args.items c.args.events s b) (λ w. IsPostOf c.in_ok-pool.pool w.post) c.in_ok-workers.workers.items parts.0 c.in_ok-workers.ensures.new

pub returns-clause-empty : goal.returns-clause-empty
returns-clause-empty g c =
    let there = callers-there c.in_ok-book.book.run c.args.items c.args.events c.in_ok-book.seats.callers.items c.in_ok-book.ensures.callers in
    let count = ap (λ r. r.callers) c.in_ok-book.ensures.run in
    let workers = workers-there c.in_ok-book.book.run c.args.items c.args.events c.in_ok-book.seats.workers.items c.in_ok-book.ensures.workers in
    let of_run = ap (λ r. r.workers) c.in_ok-book.ensures.run in
    let left = left-over (λ c. c.worker.chair) c.in_ok-book.seats.workers.items c.hire_callers.new.workers.items c.in_ok-callers.callers.items c.in_ok-callers.ensures.workers in (
      (all-out (λ c. c.chair) c.in_ok-book.seats.callers.items c.hire_callers.new.chairs.items c.in_ok-callers.callers.items c.in_ok-callers.ensures.chairs (omega (arith, there, count, c.in_ok-callers.ensures.count))).0,
      (all-out (λ w. w.chair) c.hire_callers.new.workers.items c.hire_workers.new.chairs.items c.in_ok-workers.workers.items c.in_ok-workers.ensures.chairs (omega (arith, workers, of_run, left, c.in_ok-callers.ensures.count, c.in_ok-workers.ensures.count))).0,
    )
