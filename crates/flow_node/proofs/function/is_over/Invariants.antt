use Rattle.std.proofs.Common.{◌≡◌, ◌&&◌, eqb, drop}
use Rattle.std.specs.List.{list_any}
use Rattle.flow_shape.specs.declared.Wire.{Wire}
use Rattle.flow_node.proofs.function.is_over.Given as goal

-- it is none of those before
abbrev pub invariant-loop-x : goal.invariant-loop-x
invariant-loop-x l = list_any (λ (w : Wire). eqb w.out l.port && eqb w.edge l.edge) (drop l.x l.outs) ≡ list_any (λ (w : Wire). eqb w.out l.port && eqb w.edge l.edge) l.outs
