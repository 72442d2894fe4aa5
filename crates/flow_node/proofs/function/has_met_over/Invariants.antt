use Rattle.std.proofs.Common.{◌≡◌, ◌||◌, not, eqb, drop}
use Rattle.std.specs.List.{list_all}
use Rattle.flow_item.specs.Lists.{has}
use Rattle.flow_shape.specs.declared.Wire.{Wire}
use Rattle.flow_node.proofs.function.has_met_over.Given as goal

-- it met those before
abbrev pub invariant-loop-x : goal.invariant-loop-x
invariant-loop-x l = list_all (λ (w : Wire). not (eqb w.out l.port) || has l.cast.cast.met w.edge) (drop l.x l.outs) ≡ list_all (λ (w : Wire). not (eqb w.out l.port) || has l.cast.cast.met w.edge) l.outs
