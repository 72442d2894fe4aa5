use Rattle.std.proofs.Common.{rules}
use Rattle.flow_cli.proofs.RunWordLemmas.{worked, no-workers}
use Rattle.flow_cli.proofs.threads_words.workers_of.Goals as goal

pub returns-then-workers-le-MOST_WORKERS : goal.returns-then-workers-le-MOST_WORKERS
returns-then-workers-le-MOST_WORKERS c = worked c.args.text.now c.in-Ok.workers c.in-Ok.ensures.value.0 (search rules) (search rules)

pub returns-in-Err : goal.returns-in-Err
returns-in-Err c = no-workers c.args.text.now c.in-Err.ensures.value.0
