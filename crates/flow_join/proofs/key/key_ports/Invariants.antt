use Rattle.std.proofs.Common.{◌≡◌, None, [], replicate}
use Rattle.flow_join.proofs.key.key_ports.Given as goal

abbrev pub invariant-loop : goal.invariant-loop
invariant-loop l = l.all.items ≡ replicate l.counter (record { items = []; ready = None })
