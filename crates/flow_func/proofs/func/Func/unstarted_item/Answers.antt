use Rattle.std.proofs.Common.{◌∙◌}
use Rattle.flow_machine.specs.Enabled.{is_numbered}
use Rattle.flow_func.proofs.Finds.{found-first, found-second}
use Rattle.flow_func.proofs.func.Func.unstarted_item.Goals as goal

pub returns-in-Some : goal.returns-in-Some
returns-in-Some c =
    let s = c.self.inside.stages in
    rw (← c.self.view_is) (found-first (is_numbered c.args.number) s.waiting s.ready c.in-Some.item.now c.in-Some.ensures)

pub returns-in-None : goal.returns-in-None
returns-in-None c =
    let s = c.self.inside.stages in
    rw (← c.self.view_is) (c.find_ready.ensures ∙ found-second (is_numbered c.args.number) s.waiting s.ready c.in-None.ensures)
