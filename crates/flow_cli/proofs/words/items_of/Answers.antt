use Rattle.std.proofs.Common.{rules}
use Rattle.flow_cli.proofs.WordLemmas.{told, no-number}
use Rattle.flow_cli.proofs.words.items_of.Goals as goal

pub returns-then-items-le-MOST_ITEMS : goal.returns-then-items-le-MOST_ITEMS
returns-then-items-le-MOST_ITEMS c = told c.args.text.now c.in-Ok.items c.in-Ok.ensures.value.0 (search rules)

pub returns-in-Err : goal.returns-in-Err
returns-in-Err c = no-number c.args.text.now c.in-Err.ensures.value.0
