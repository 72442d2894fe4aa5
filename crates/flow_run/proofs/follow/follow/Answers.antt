use Rattle.std.proofs.Common.{◌∙◌, sym, ap, arith}
use Rattle.std.specs.List.{list_all}
use Rattle.std.specs.Option.{option_copied}
use Rattle.flow_shape.proofs.Sorting.{all-at}
use Rattle.flow_work.specs.Runs.{is_good_step}
use Rattle.flow_run.proofs.Following.{never-missing, caller-below}
use Rattle.flow_run.proofs.follow.follow.Goals as goal

pub follow_script-requires-clause-good : goal.follow_script-requires-clause-good
follow_script-requires-clause-good g c = λ κs lives. all-at (list_all (is_good_step c.args.graph.now.book.run.shape)) c.args.doc.now.scripts c.number.result c.in-Some.script.now c.requires.scripts.1 (sym c.in-Some.ensures.value)

pub unreachable-requires : goal.unreachable-requires
unreachable-requires g c =
    let below = caller-below c.args.graph.now.book.run.callers c.args.caller.now.chair.party c.number.result c.number.ensures.number c.requires.of.caller in
    let scripted = c.requires.scripts.0 in
    never-missing c.args.doc.now.scripts c.number.result (omega (arith, below, scripted)) (sym c.get.ensures.value ∙ ap option_copied c.in-None.is)
