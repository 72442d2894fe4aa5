use Rattle.std.proofs.Common.{◌≡◌, ◌∷◌, take, string_bytes}
use Rattle.flow_report.specs.Words.{line, numbers}
use Rattle.flow_print.proofs.words.numbers_text.Given as goal

abbrev pub invariant-loop-number : goal.invariant-loop-number
invariant-loop-number l = string_bytes l.text ≡ line (l.word ∷ numbers (take l.number-index l.counts))
