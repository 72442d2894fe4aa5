use Rattle.std.proofs.Common.{rules, map, string_bytes}
use Rattle.flow_cli.proofs.WordLemmas.{accepted_gen, refused_gen}
use Rattle.flow_cli.proofs.words.gen_words.Goals as goal

pub returns-in-Ok : goal.returns-in-Ok
returns-in-Ok c = rw (c.count_in-count.ensures, c.is_set-text.ensures) (accepted_gen (map string_bytes c.args.words.now) c.in_ok-command.command c.in-Ok.matches (search rules) c.in_ok-command.ensures c.in-Ok.ensures.kinds c.in-Ok.ensures.matches)

pub returns : goal.returns
returns c = refused_gen (map string_bytes c.args.words.now) c.in_ok-command.command c.in-Err.error (search rules) c.in_ok-command.ensures c.in-Err.ensures.passes (λ same. c.in_default.not-OutOfMemory (search rules))
