use Rattle.std.proofs.Common.{◌++◌, map, sym, ap, ◌∙◌}
use Rattle.std.specs.List.{find}
use Rattle.flow_machine.specs.Enabled.{is_numbered}
use Rattle.flow_node.specs.NodeViews.{cast_item}
use Rattle.flow_node.specs.Parts.{cast_in}
use Rattle.flow_node.proofs.ListLemmas.{find-first, find-second}
use Rattle.flow_node.proofs.FunctionLemmas.{items-are}
use Rattle.flow_node.proofs.function.FunctionPart.item.Goals as goal

pub returns-in-Some : goal.returns-in-Some
returns-in-Some c =
    let w = c.args.self.now.work in
    find-first (is_numbered c.args.no) (w.waiting ++ w.ready ++ w.running ++ w.tickets) (map cast_item (map cast_in c.args.self.now.outbox)) c.in-Some.item.now (rw (← c.self.view_is) c.in-Some.ensures)

pub returns-in-None : goal.returns-in-None
returns-in-None c =
    let w = c.args.self.now.work in
    c.cast_item.ensures ∙ ap (find (is_numbered c.args.no)) (sym (items-are c.args.self.now.outbox))
    ∙ find-second (is_numbered c.args.no) (w.waiting ++ w.ready ++ w.running ++ w.tickets) (map cast_item (map cast_in c.args.self.now.outbox)) (rw (← c.self.view_is) c.in-None.ensures)
