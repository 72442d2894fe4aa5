use Rattle.std.proofs.Common.{arith, rules}
use Rattle.flow_mean.proofs.flow.begun.Goals as goal

pub returns-clause-sizes : goal.returns-clause-sizes
returns-clause-sizes c = record {
  passed_size = omega (arith, c.in_ok-passed.ensures.len, c.len-count.ensures);
  kept_size = omega (arith, c.in_ok-kept.ensures.len, c.len-count.ensures);
  repeats_size = search rules;
  puts_size = c.in_ok-puts.ensures.0;
}
