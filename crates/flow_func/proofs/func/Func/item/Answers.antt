use Rattle.std.proofs.Common.{◌++◌, ◌∙◌}
use Rattle.flow_machine.specs.Enabled.{is_numbered}
use Rattle.flow_func.proofs.Finds.{found-first, found-second}
use Rattle.flow_func.proofs.func.Func.item.Goals as goal

pub returns-in-Some : goal.returns-in-Some
returns-in-Some c =
    let p = is_numbered c.args.number in
    let w = c.args.self.now.body in
    found-first p (w.waiting ++ w.ready ++ w.running) w.tickets c.in-Some.item.now (found-first p (w.waiting ++ w.ready) w.running c.in-Some.item.now c.in-Some.ensures)

pub returns-in-Some-find_running : goal.returns-in-Some-find_running
returns-in-Some-find_running c =
    let p = is_numbered c.args.number in
    let w = c.args.self.now.body in
    let i = c.in-Some-find_running.item.now in
    found-first p (w.waiting ++ w.ready ++ w.running) w.tickets i (rw (← c.self.view_is) c.in-Some-find_running.ensures ∙ found-second p (w.waiting ++ w.ready) w.running c.in-None.ensures)

pub returns-in-None-find_running : goal.returns-in-None-find_running
returns-in-None-find_running c =
    let p = is_numbered c.args.number in
    let w = c.args.self.now.body in
    rw (← c.self.view_is) c.find_ticket.ensures
    ∙ found-second p (w.waiting ++ w.ready ++ w.running) w.tickets (rw (← c.self.view_is) c.in-None-find_running.ensures ∙ found-second p (w.waiting ++ w.ready) w.running c.in-None.ensures)
