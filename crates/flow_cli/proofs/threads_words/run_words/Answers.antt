use Rattle.std.proofs.Common.{rules, map, string_bytes}
use Rattle.clap.specs.Words.{found_of, rows_of}
use Rattle.flow_cli.proofs.RunWordLemmas.{accepted_run, refused_run, workers_within, items_within}
use Rattle.flow_cli.proofs.threads_words.run_words.Goals as goal

pub returns-in-Ok-clause-asked : goal.returns-in-Ok-clause-asked
returns-in-Ok-clause-asked c = rw (c.is_set-journal.ensures, c.items_in-items.ensures, c.workers_in-workers.ensures) (accepted_run (map string_bytes c.args.words.now) c.in_ok-command.command c.in-Ok.matches (search rules) c.in_ok-command.ensures c.in-Ok.ensures.kinds c.in-Ok.ensures.matches)

pub returns-in-Ok-clause-workers : goal.returns-in-Ok-clause-workers
returns-in-Ok-clause-workers c = workers_within _ (rows_of (found_of c.in-Ok.matches)) c.workers_in-workers.ensures

pub returns-in-Ok-clause-items : goal.returns-in-Ok-clause-items
returns-in-Ok-clause-items c = items_within _ (rows_of (found_of c.in-Ok.matches)) c.items_in-items.ensures

pub returns-clause-asked : goal.returns-clause-asked
returns-clause-asked c = refused_run (map string_bytes c.args.words.now) c.in_ok-command.command c.in-Err.error (search rules) c.in_ok-command.ensures c.in-Err.ensures.passes (λ same. c.in_default.not-OutOfMemory (search rules))
