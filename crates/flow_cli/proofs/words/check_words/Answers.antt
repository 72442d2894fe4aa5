use Rattle.std.proofs.Common.{rules, map, string_bytes}
use Rattle.flow_cli.proofs.WordLemmas.{accepted_check, refused_check}
use Rattle.flow_cli.proofs.words.check_words.Goals as goal

pub returns-in-Ok : goal.returns-in-Ok
returns-in-Ok c = accepted_check (map string_bytes c.args.words.now) c.check_command-command.result c.in-Ok.matches (search rules) c.check_command-command.ensures c.in-Ok.ensures.kinds c.in-Ok.ensures.matches

pub returns : goal.returns
returns c = refused_check (map string_bytes c.args.words.now) c.check_command-command.result c.in-Err.error (search rules) c.check_command-command.ensures c.in-Err.ensures.passes (λ same. c.in_default.not-OutOfMemory (search rules))
