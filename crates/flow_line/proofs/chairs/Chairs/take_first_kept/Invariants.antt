use Rattle.std.proofs.Common.{◌≡◌, None, take}
use Rattle.flow_line.specs.Kept.{first_kept}
use Rattle.flow_line.proofs.chairs.Chairs.take_first_kept.Given as goal

abbrev pub invariant-loop-k : goal.invariant-loop-k
invariant-loop-k g l = record {
  same : l.self-inside.list ≡ l.initial.self-inside.list;
  none : first_kept (take l.k l.self-inside.list.items) ≡ None;
}
