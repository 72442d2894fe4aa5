use Rattle.std.proofs.Common.{◌≡◌, ℕ, ◌+◌, ◌*◌, ◌<◌, ◌≤◌, [], length, get_or}
use Rattle.flow_mean.specs.Passing.{brought_to, maps_at, repeats_at}
use Rattle.flow_mean.proofs.flow.ports_of.Given as goal

abbrev pub invariant-loop-port : goal.invariant-loop-port
invariant-loop-port l = record {
  size : length l.puts ≡ length l.initial.puts;
  maps : l.maps.items ≡ maps_at (brought_to l.initial.puts l.sources l.passed l.node) l.port;
  repeats : l.repeats ≡ repeats_at (brought_to l.initial.puts l.sources l.passed l.node) l.port;
  left : (q : ℕ) → l.port ≤ q → q < 8 → get_or l.puts (l.node * 8 + q) [] ≡ get_or l.initial.puts (l.node * 8 + q) [];
  others : (m q : ℕ) → (m ≡ l.node → ⊥) → q < 8 → get_or l.puts (m * 8 + q) [] ≡ get_or l.initial.puts (m * 8 + q) [];
}
