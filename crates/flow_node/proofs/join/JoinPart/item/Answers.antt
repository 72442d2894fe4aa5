use Rattle.std.proofs.Common.{◌∙◌}
use Rattle.flow_machine.specs.Enabled.{is_numbered}
use Rattle.flow_machine.specs.Ledger.{flattened}
use Rattle.flow_node.specs.Joins.{ports_of, slot_items}
use Rattle.flow_node.proofs.ListLemmas.{find-first, find-second}
use Rattle.flow_node.proofs.join.JoinPart.item.Goals as goal

pub returns-in-Some : goal.returns-in-Some
returns-in-Some c =
    find-first (is_numbered c.args.no) (flattened (ports_of c.args.self.now.inputs)) (slot_items c.args.self.now.slot) c.in-Some.item.now c.in-Some.ensures

pub returns-in-None : goal.returns-in-None
returns-in-None c =
    c.slot_item.ensures
    ∙ find-second (is_numbered c.args.no) (flattened (ports_of c.args.self.now.inputs)) (slot_items c.args.self.now.slot) c.in-None.ensures
