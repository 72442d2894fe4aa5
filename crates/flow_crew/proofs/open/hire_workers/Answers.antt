use Rattle.std.proofs.Common.{◌≡◌, [], length, refl, sym, ap, ◌∙◌, arith, subst, All, false}
use Rattle.std.proofs.lemmas.List.Elements.{All-nil, All-cons, All-append}
use Rattle.std.proofs.lemmas.List.{length-reverse}
use Rattle.flow_pool.specs.Posts.{IsPostOf}
use Rattle.flow_crew.proofs.Lists.{one-taken, all-taken, not-empty, one-shorter, all-turned}
use Rattle.flow_crew.proofs.open.hire_workers.Goals as goal

pub last_worker-requires-clause-chairs : goal.last_worker-requires-clause-chairs
last_worker-requires-clause-chairs g c = not-empty c.hire.chairs.items (omega (arith, c.hire.invariant.left, c.hire-test.true, c.requires.chairs))

pub hire-preserved : goal.hire-preserved
hire-preserved g c =
    let h = c.hire.invariant in
    let hired = c.last_worker.ensures in
    let grown = c.in_ok-push.ensures.items in
    let longer = one-shorter c.push.new.self.items c.hire.workers.items _ grown in
    let chairs = one-shorter c.hire.chairs.items c.last_worker.new.chairs.items _ hired.chair in
    record {
      chairs = one-taken (λ w. w.chair) c.args.chairs.now.items c.hire.chairs.items c.last_worker.new.chairs.items c.last_worker.result.chair c.hire.workers.items c.push.new.self.items _ grown refl h.chairs hired.chair;
      spare = omega (arith, h.spare, hired.spare, longer);
      few = omega (arith, longer, c.hire-test.true);
      left = omega (arith, h.left, chairs, longer);
      fewer = omega (arith, h.fewer, hired.fewer, longer);
      new = subst (λ l. All (λ w. IsPostOf c.args.pool.now w.post × (w.busy ≡ false)) l) (sym grown) (All-append (λ w. IsPostOf c.args.pool.now w.post × (w.busy ≡ false)) c.hire.workers.items _ h.new (All-cons (λ w. IsPostOf c.args.pool.now w.post × (w.busy ≡ false)) _ [] (hired.post, hired.idle) (All-nil (λ w. IsPostOf c.args.pool.now w.post × (w.busy ≡ false)))));
      all = hired.all;
    }

pub returns-clause-chairs : goal.returns-clause-chairs
returns-clause-chairs g c = all-taken (λ w. w.chair) c.args.chairs.now.items c.hire.chairs.items c.hire.workers.items c.turn.new.list.items c.hire.invariant.chairs c.turn.ensures

pub returns-clause-count : goal.returns-clause-count
returns-clause-count g c = let same = ap length c.turn.ensures ∙ length-reverse c.hire.workers.items in omega (arith, same, c.hire.invariant.few, c.hire-test.false)

pub returns-clause-new : goal.returns-clause-new
returns-clause-new g c =
    subst (λ l. All (λ w. IsPostOf c.args.pool.now w.post × (w.busy ≡ false)) l) (sym c.turn.ensures)
    (all-turned (λ w. IsPostOf c.args.pool.now w.post × (w.busy ≡ false)) c.hire.workers.items c.hire.invariant.new)
