use Rattle.std.proofs.Common.{string_bytes}
use Rattle.flow_gen.proofs.Texts.{text_more}
use Rattle.flow_gen.proofs.text.add_script.Goals as goal

pub loop-number-preserved : goal.loop-number-preserved
loop-number-preserved c = text_more c.args.count c.args.caller c.loop-number.number (string_bytes c.loop-number.out) _ _ c.loop-number.later _ c.loop-number-test.true c.in_ok-later.ensures c.loop-number.invariant
