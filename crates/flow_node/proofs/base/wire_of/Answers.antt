use Rattle.std.proofs.Common.{eqb, ◌∙◌, eq-eqb}
use Rattle.std.proofs.lemmas.Bool.{ne_eqb}
use Rattle.flow_shape.specs.declared.Wire.{Wire}
use Rattle.flow_node.proofs.LoopLemmas.{find-here, find-past}
use Rattle.flow_node.proofs.base.wire_of.Goals as goal

pub returns-then-wire-edge : goal.returns-then-wire-edge
returns-then-wire-edge c =
    find-here (λ (w : Wire). eqb w.edge c.args.edge) c.args.wires.now c.loop-k.k _ c.loop-k-test.true (eq-eqb _ _ c.if-wire-edge.true) ∙ c.loop-k.invariant

pub loop-k-preserved : goal.loop-k-preserved
loop-k-preserved c =
    find-past (λ (w : Wire). eqb w.edge c.args.edge) c.args.wires.now c.loop-k.k _ c.loop-k-test.true (ne_eqb _ _ c.if-wire-edge.false) ∙ c.loop-k.invariant
