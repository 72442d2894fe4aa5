use Rattle.std.proofs.Common.{◌≡◌, ℕ, Bool, true, List, All, sym, subst}
use Rattle.std.proofs.lemmas.List.Elements.{All-weaker}
use Rattle.flow_item.specs.declared.event.Event.{Event}
use Rattle.flow_machine.specs.Bodies.{Meanings}
use Rattle.flow_line.specs.Values.{Sitting}
use Rattle.flow_pool.specs.declared.pool.Pool.{Pool}
use Rattle.flow_pool.specs.declared.post.Post.{Post}
use Rattle.flow_pool.specs.Posts.{IsPostOf}
use Rattle.flow_book.specs.declared.machine.Run.{Run}
use Rattle.flow_book.specs.Callers.{may_call}
use Rattle.flow_crew.specs.Crew.{IsCaller, IsWorker}
use Rattle.flow_crew.proofs.Ready.{all-both}
use Rattle.flow_tests_crew.specs.Tried.{MayCall, MayWork}
use Rattle.flow_tests_crew.proofs.trials.opened_parts.Goals as goal

module _ {X : Type 0} (worker : X → Sitting Event Run) (busy : X → Bool) (post : X → Post) (m : Meanings) (run : Run) (items events i e : ℕ) (pool : Pool) (xs : List X) (at : i ≡ items) (to : e ≡ events) where
  -- those that work
  all-work : All (λ x. IsWorker m run items events (worker x) (busy x) × IsPostOf pool (post x)) xs → All (λ x. MayWork m run i e pool (worker x) (busy x) (post x)) xs
  all-work h =
      subst (λ (n : ℕ). All (λ x. MayWork m run n e pool (worker x) (busy x) (post x)) xs) (sym at)
      (subst (λ (n : ℕ). All (λ x. MayWork m run items n pool (worker x) (busy x) (post x)) xs) (sym to)
      (All-weaker (λ x. IsWorker m run items events (worker x) (busy x) × IsPostOf pool (post x)) (λ x. MayWork m run items events pool (worker x) (busy x) (post x)) (λ x t. record { of = t.0; place = t.1 }) xs h))

  -- those that call, each with its worker
  all-call : (caller : X → Sitting Event Run) → All (λ x. IsCaller m run items events (caller x) × (may_call run (caller x) ≡ true)) xs → All (λ x. IsWorker m run items events (worker x) (busy x) × IsPostOf pool (post x)) xs
      → All (λ x. MayCall m run i e pool (caller x) (worker x) (busy x) (post x)) xs
  all-call caller h w =
      subst (λ (n : ℕ). All (λ x. MayCall m run n e pool (caller x) (worker x) (busy x) (post x)) xs) (sym at)
      (subst (λ (n : ℕ). All (λ x. MayCall m run items n pool (caller x) (worker x) (busy x) (post x)) xs) (sym to)
      (All-weaker (λ x. (IsCaller m run items events (caller x) × (may_call run (caller x) ≡ true)) × (IsWorker m run items events (worker x) (busy x) × IsPostOf pool (post x))) (λ x. MayCall m run items events pool (caller x) (worker x) (busy x) (post x))
      (λ x t. record { of = t.0.0; calls = t.0.1; waits = record { of = t.1.0; place = t.1.1 } }) xs
      (all-both (λ x. IsCaller m run items events (caller x) × (may_call run (caller x) ≡ true)) (λ x. IsWorker m run items events (worker x) (busy x) × IsPostOf pool (post x)) xs h w)))

pub returns-clause-ready : goal.returns-clause-ready
returns-clause-ready g c =
    let graph = c.in-Ok.parts.graph in
    all-call (λ k. k.worker.chair) (λ k. k.worker.busy) (λ k. k.worker.post) (g.S.Bodies.meanings graph.bench.bodies.now) graph.book.run c.args.items c.args.events graph.book.items graph.book.events graph.pool c.in-Ok.parts.callers.items c.in-Ok.ensures.limits.0 c.in-Ok.ensures.limits.1
    (λ k. k.chair) c.in-Ok.ensures.ready c.in-Ok.ensures.waiters

pub returns-clause-hired : goal.returns-clause-hired
returns-clause-hired g c =
    let graph = c.in-Ok.parts.graph in
    all-work (λ w. w.chair) (λ w. w.busy) (λ w. w.post) (g.S.Bodies.meanings graph.bench.bodies.now) graph.book.run c.args.items c.args.events graph.book.items graph.book.events graph.pool c.in-Ok.parts.workers.items c.in-Ok.ensures.limits.0 c.in-Ok.ensures.limits.1
    c.in-Ok.ensures.hired
