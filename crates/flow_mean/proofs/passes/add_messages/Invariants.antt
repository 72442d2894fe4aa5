use Rattle.std.proofs.Common.{◌≡◌, ◌++◌, take}
use Rattle.std.specs.Prelude.{map}
use Rattle.flow_item.specs.Pairs.{pair_of_msg}
use Rattle.flow_mean.proofs.passes.add_messages.Given as goal

abbrev pub invariant-loop-at : goal.invariant-loop-at
invariant-loop-at l = l.pairs.items ≡ l.initial.pairs.items ++ map pair_of_msg (take l.at l.outs)
