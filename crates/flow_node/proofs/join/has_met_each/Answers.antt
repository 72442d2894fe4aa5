use Rattle.std.proofs.Common.{sym, ◌∙◌}
use Rattle.flow_item.specs.Lists.{has}
use Rattle.flow_node.proofs.LoopLemmas.{not-true, not-false, all-here, all-past}
use Rattle.flow_node.proofs.join.has_met_each.Goals as goal

pub returns-then-offer : goal.returns-then-offer
returns-then-offer c =
    all-here (has c.args.cast.now.cast.met) c.args.push.now c.loop-k.k _ c.loop-k-test.true (not-true _ (sym c.offer.ensures ∙ c.if-offer.true)) ∙ c.loop-k.invariant

pub loop-k-preserved : goal.loop-k-preserved
loop-k-preserved c =
    all-past (has c.args.cast.now.cast.met) c.args.push.now c.loop-k.k _ c.loop-k-test.true (not-false _ (sym c.offer.ensures ∙ c.if-offer.false)) ∙ c.loop-k.invariant
