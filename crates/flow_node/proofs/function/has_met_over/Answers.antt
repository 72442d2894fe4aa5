use Rattle.std.proofs.Common.{◌||◌, not, eqb, sym, ◌∙◌}
use Rattle.flow_item.specs.Lists.{has}
use Rattle.flow_shape.specs.declared.Wire.{Wire}
use Rattle.flow_node.proofs.LoopLemmas.{all-here, all-past}
use Rattle.flow_node.proofs.function.has_met_over.Goals as goal

pub returns-then-not-has_met : goal.returns-then-not-has_met
returns-then-not-has_met c =
    all-here (λ (w : Wire). not (eqb w.out c.args.port) || has c.args.cast.now.cast.met w.edge) c.args.outs.now c.loop-x.x _ c.loop-x-test.true (sym c.has_met.ensures ∙ c.if-not-has_met.true) ∙ c.loop-x.invariant

pub loop-x-preserved : goal.loop-x-preserved
loop-x-preserved c =
    all-past (λ (w : Wire). not (eqb w.out c.args.port) || has c.args.cast.now.cast.met w.edge) c.args.outs.now c.loop-x.x _ c.loop-x-test.true (sym c.has_met.ensures ∙ c.if-not-has_met.false) ∙ c.loop-x.invariant
