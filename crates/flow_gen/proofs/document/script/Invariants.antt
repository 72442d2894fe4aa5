use Rattle.std.proofs.Common.{◌≡◌, ◌++◌, map}
use Rattle.flow_gen.specs.Generated.{generated_put, generated_script}
use Rattle.flow_gen.proofs.Numbers.{rest}
use Rattle.flow_gen.proofs.document.script.Given as goal

abbrev pub invariant-loop-number : goal.invariant-loop-number
invariant-loop-number l = l.steps.items ++ map generated_put (rest l.count l.caller l.number) ≡ generated_script l.count l.caller
