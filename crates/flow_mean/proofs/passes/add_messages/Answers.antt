use Rattle.std.proofs.Common.{arith}
use Rattle.flow_mean.proofs.Messages.{msg-none, messages-on}
use Rattle.flow_mean.proofs.passes.add_messages.Goals as goal

pub unreachable-requires : goal.unreachable-requires
unreachable-requires c = msg-none c.args.outs.now c.loop-at.at c.in-None.ensures (omega (arith, c.loop-at-test.true, c.len-at-end.ensures.value))

pub loop-at-preserved : goal.loop-at-preserved
loop-at-preserved c = messages-on c.args.outs.now c.loop-at.at c.in-Some.msg.now c.args.pairs.now.items c.loop-at.pairs.items c.add_message.new.pairs.items c.in-Some.ensures c.in_ok-add_message-in-Some.ensures c.loop-at.invariant
