use Rattle.std.proofs.Common.{◌≡◌, ◌++◌, string_bytes}
use Rattle.flow_gen.specs.Texts.{puts_text, script_text}
use Rattle.flow_gen.proofs.Numbers.{rest}
use Rattle.flow_gen.proofs.text.add_script.Given as goal

abbrev pub invariant-loop-number : goal.invariant-loop-number
invariant-loop-number l = string_bytes l.out ++ puts_text l.later (rest l.count l.caller l.number) ≡ string_bytes l.fn.out ++ script_text l.count l.caller
