use Rattle.std.proofs.Common.{◌≡◌, ◌++◌, [], get_or, drop}
use Rattle.std.specs.List.{flat_map}
use Rattle.flow_mean.proofs.ports.gather.Given as goal

abbrev pub invariant-loop-source : goal.invariant-loop-source
invariant-loop-source l = l.all.items ++ flat_map (λ s. get_or l.passed s []) (drop l.source-index l.sources) ≡ l.initial.all.items ++ flat_map (λ s. get_or l.passed s []) l.sources
