use Rattle.flow_nodes.specs.DueSets.{IsClear}
use Rattle.flow_nodes.proofs.due.first_raised.Given as goal

abbrev pub invariant-loop-at : goal.invariant-loop-at
invariant-loop-at l = IsClear l.flags l.from l.at
