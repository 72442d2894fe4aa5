use Rattle.std.proofs.Common.{rules, string_bytes}
use Rattle.flow_cli.proofs.WordLemmas.{begins}
use Rattle.flow_cli.proofs.words.is_named.Goals as goal

pub returns-in-Some : goal.returns-in-Some
returns-in-Some c = begins string_bytes c.args.words.now c.in-Some.word.now c.args.name.now c.eq.result (search rules) (search rules)
