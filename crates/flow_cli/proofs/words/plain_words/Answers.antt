use Rattle.std.proofs.Common.{rules, map, string_bytes}
use Rattle.flow_cli.proofs.WordLemmas.{accepted, refused}
use Rattle.flow_cli.proofs.words.plain_words.Goals as goal

pub returns-in-Ok : goal.returns-in-Ok
returns-in-Ok c = rw (c.is_set-journal.ensures, c.items_in-items.ensures) (accepted (map string_bytes c.args.words.now) c.in_ok-command.command c.in-Ok.matches (search rules) c.in_ok-command.ensures c.in-Ok.ensures.kinds c.in-Ok.ensures.matches)

pub returns : goal.returns
returns c = refused (map string_bytes c.args.words.now) c.in_ok-command.command c.in-Err.error (search rules) c.in_ok-command.ensures c.in-Err.ensures.passes (λ same. c.in_default.not-OutOfMemory (search rules))
