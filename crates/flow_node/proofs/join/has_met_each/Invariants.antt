use Rattle.std.proofs.Common.{◌≡◌, drop}
use Rattle.flow_machine.specs.Offers.{all_in}
use Rattle.flow_node.proofs.join.has_met_each.Given as goal

-- it met those before
abbrev pub invariant-loop-k : goal.invariant-loop-k
invariant-loop-k l = all_in (drop l.k l.push) l.cast.cast.met ≡ all_in l.push l.cast.cast.met
