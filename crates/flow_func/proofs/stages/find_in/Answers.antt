use Rattle.std.proofs.Common.{sym, ◌∙◌}
use Rattle.flow_machine.specs.Enabled.{is_numbered}
use Rattle.flow_func.specs.StageLists.{span}
use Rattle.flow_func.proofs.Finds.{first-found, none-found}
use Rattle.flow_func.proofs.stages.find_in.Goals as goal

pub returns-in-Some : goal.returns-in-Some
returns-in-Some c = c.item_in.ensures ∙ sym (first-found c.args.number (span c.args.from c.args.count c.args.items.now.items) c.in-Some.place c.in-Some.ensures)

pub returns-in-None : goal.returns-in-None
returns-in-None c = sym (none-found (is_numbered c.args.number) (span c.args.from c.args.count c.args.items.now.items) c.in-None.ensures)
