use Rattle.std.proofs.Common.{◌&&◌, eqb, sym, ◌∙◌}
use Rattle.flow_shape.specs.declared.Wire.{Wire}
use Rattle.flow_node.proofs.LoopLemmas.{any-here, any-past}
use Rattle.flow_node.proofs.function.is_over.Goals as goal

pub returns-then-goes_over : goal.returns-then-goes_over
returns-then-goes_over c =
    any-here (λ (w : Wire). eqb w.out c.args.port && eqb w.edge c.args.edge) c.args.outs.now c.loop-x.x _ c.loop-x-test.true (sym c.goes_over.ensures ∙ c.if-goes_over.true) ∙ c.loop-x.invariant

pub loop-x-preserved : goal.loop-x-preserved
loop-x-preserved c =
    any-past (λ (w : Wire). eqb w.out c.args.port && eqb w.edge c.args.edge) c.args.outs.now c.loop-x.x _ c.loop-x-test.true (sym c.goes_over.ensures ∙ c.if-goes_over.false) ∙ c.loop-x.invariant
