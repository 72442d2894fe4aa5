use Rattle.std.proofs.Common.{rules}
use Rattle.flow_cli.proofs.WordLemmas.{counted, no-count}
use Rattle.flow_cli.proofs.words.count_of.Goals as goal

pub returns-then-count-le-MOST_COUNT : goal.returns-then-count-le-MOST_COUNT
returns-then-count-le-MOST_COUNT c = counted c.args.text.now c.in-Ok.count c.in-Ok.ensures.value.0 (search rules) (search rules)

pub returns-in-Err : goal.returns-in-Err
returns-in-Err c = no-count c.args.text.now c.in-Err.ensures.value.0
