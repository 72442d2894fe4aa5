use Rattle.std.proofs.Common.{◌≡◌, ◌++◌, take, drop}
use Rattle.flow_mean.specs.Maps.{run_from, past_run}
use Rattle.flow_mean.proofs.passes.run_len.Given as goal

abbrev pub invariant-loop-at : goal.invariant-loop-at
invariant-loop-at l = record {
  run : take l.at l.row ++ run_from l.at (drop l.at l.row) ≡ run_from 0 l.row;
  past : past_run l.at (drop l.at l.row) ≡ past_run 0 l.row;
}
