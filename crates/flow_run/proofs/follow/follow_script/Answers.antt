use Rattle.std.proofs.Common.{◌≡◌, length, arith, subst}
use Rattle.flow_run.specs.Following.{IsAt}
use Rattle.flow_run.proofs.Following.{script-ended}
use Rattle.flow_run.proofs.follow.follow_script.Goals as goal

pub returns-clause-followed : goal.returns-clause-followed
returns-clause-followed g c =
    let within = c.steps.invariant.within in
    let over = c.steps-test.false in
    let end : c.steps.at ≡ length c.args.script.now = omega (arith, within, over) in
    script-ended c.args.graph.now.book.run.shape c.args.script.now c.steps.caller.chair c.leave.new.caller.chair c.leave.ensures.left c.leave.ensures.own c.steps.invariant.none
    (subst (λ n. IsAt c.args.graph.now.book.run.shape c.args.script.now n c.steps.caller.chair) end c.steps.invariant.here)
