use Rattle.std.proofs.Common.{nat_eq, ◌∙◌}
use Rattle.indexmap.proofs.CallerLemmas.{insert_entry-new}
use Rattle.flow_store.proofs.seq.insert_tagged.Goals as goal

pub returns-clause-items : goal.returns-clause-items
returns-clause-items c = c.in-Ok.ensures.entries ∙ insert_entry-new nat_eq c.args.items.now c.args.item.tag c.args.item c.requires.new
