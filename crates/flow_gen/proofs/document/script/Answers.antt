use Rattle.flow_gen.proofs.Numbers.{script_more}
use Rattle.flow_gen.proofs.document.script.Goals as goal

pub loop-number-preserved : goal.loop-number-preserved
loop-number-preserved c = script_more c.args.count c.args.caller c.loop-number.number c.loop-number.steps.items _ _ c.loop-number-test.true c.in_ok-add_own.ensures c.loop-number.invariant
