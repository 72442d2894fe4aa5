use Rattle.std.proofs.Common.{◌≡◌, [], length, refl, sym, ap, ◌∙◌, arith, subst, All, false}
use Rattle.std.proofs.lemmas.List.Elements.{All-nil, All-cons, All-append}
use Rattle.std.proofs.lemmas.List.{length-reverse}
use Rattle.flow_pool.specs.Posts.{IsPostOf}
use Rattle.flow_crew.proofs.Lists.{one-taken, all-taken, not-empty, one-shorter, all-turned}
use Rattle.flow_crew.proofs.open.hire_callers.Goals as goal

pub last_chair-chair-requires : goal.last_chair-chair-requires
last_chair-chair-requires g c = not-empty c.hire.chairs.items (omega (arith, c.hire.invariant.left, c.hire-test.true, c.requires.chairs))

pub last_worker-worker-requires-clause-chairs : goal.last_worker-worker-requires-clause-chairs
last_worker-worker-requires-clause-chairs g c = not-empty c.hire.workers.items (omega (arith, c.hire.invariant.behind, c.hire-test.true, c.requires.workers))

pub hire-preserved : goal.hire-preserved
hire-preserved g c =
    let h = c.hire.invariant in
    let out = c.last_chair-chair.ensures in
    let hired = c.last_worker-worker.ensures in
    let grown = c.in_ok-push.ensures.items in
    let longer = one-shorter c.push.new.self.items c.hire.callers.items _ grown in
    let chairs = one-shorter c.hire.chairs.items c.last_chair-chair.new.chairs.items _ out.chair in
    let workers = one-shorter c.hire.workers.items c.last_worker-worker.new.chairs.items _ hired.chair in
    record {
      chairs = one-taken (λ c. c.chair) c.args.chairs.now.items c.hire.chairs.items c.last_chair-chair.new.chairs.items c.last_chair-chair.result c.hire.callers.items c.push.new.self.items _ grown refl h.chairs out.chair;
      workers = one-taken (λ c. c.worker.chair) c.args.workers.now.items c.hire.workers.items c.last_worker-worker.new.chairs.items c.last_worker-worker.result.chair c.hire.callers.items c.push.new.self.items _ grown refl h.workers hired.chair;
      spare = omega (arith, h.spare, out.spare, longer);
      room = omega (arith, h.room, hired.spare, longer);
      few = omega (arith, longer, c.hire-test.true);
      left = omega (arith, h.left, chairs, longer);
      behind = omega (arith, h.behind, workers, longer);
      fewer = omega (arith, h.fewer, hired.fewer, longer);
      new = subst (λ l. All (λ k. IsPostOf c.args.pool.now k.worker.post × (k.worker.busy ≡ false)) l) (sym grown) (All-append (λ k. IsPostOf c.args.pool.now k.worker.post × (k.worker.busy ≡ false)) c.hire.callers.items _ h.new (All-cons (λ k. IsPostOf c.args.pool.now k.worker.post × (k.worker.busy ≡ false)) _ [] (hired.post, hired.idle) (All-nil (λ k. IsPostOf c.args.pool.now k.worker.post × (k.worker.busy ≡ false)))));
      all = hired.all;
    }

pub returns-clause-chairs : goal.returns-clause-chairs
returns-clause-chairs g c = all-taken (λ c. c.chair) c.args.chairs.now.items c.hire.chairs.items c.hire.callers.items c.turn.new.list.items c.hire.invariant.chairs c.turn.ensures

pub returns-clause-workers : goal.returns-clause-workers
returns-clause-workers g c = all-taken (λ c. c.worker.chair) c.args.workers.now.items c.hire.workers.items c.hire.callers.items c.turn.new.list.items c.hire.invariant.workers c.turn.ensures

pub returns-clause-count : goal.returns-clause-count
returns-clause-count g c = let same = ap length c.turn.ensures ∙ length-reverse c.hire.callers.items in omega (arith, same, c.hire.invariant.few, c.hire-test.false)

pub returns-clause-new : goal.returns-clause-new
returns-clause-new g c =
    subst (λ l. All (λ k. IsPostOf c.args.pool.now k.worker.post × (k.worker.busy ≡ false)) l) (sym c.turn.ensures)
    (all-turned (λ k. IsPostOf c.args.pool.now k.worker.post × (k.worker.busy ≡ false)) c.hire.callers.items c.hire.invariant.new)
