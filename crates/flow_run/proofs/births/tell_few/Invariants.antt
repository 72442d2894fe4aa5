use Rattle.std.proofs.Common.{◌≡◌, ◌≤◌, length, drop}
use Rattle.flow_item.specs.Events.{births}
use Rattle.flow_run.proofs.births.tell_few.Given as goal

abbrev pub invariant-back : goal.invariant-back
invariant-back l = record {
  within : l.at ≤ length l.journal;
  none : births (drop l.at l.journal) ≡ 0;
}

abbrev pub decreases-back : goal.decreases-back
decreases-back l = l.at
