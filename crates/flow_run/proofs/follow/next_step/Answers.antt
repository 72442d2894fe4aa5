use Rattle.std.proofs.Common.{◌∙◌, sym, ap}
use Rattle.std.specs.Option.{option_copied}
use Rattle.flow_run.proofs.Following.{good-at, never-missing, caller-is, next-at, step-more, step-stopped}
use Rattle.flow_run.proofs.follow.next_step.Goals as goal

pub do_step-did-requires-clause-good : goal.do_step-did-requires-clause-good
do_step-did-requires-clause-good g c = λ κs lives. good-at c.args.graph.now.book.run.shape c.args.script.now c.args.at c.in-Some.step.now c.requires.good (sym c.in-Some.ensures.value)

pub unreachable-requires : goal.unreachable-requires
unreachable-requires g c = never-missing c.args.script.now c.args.at c.requires.within (sym c.get.ensures.value ∙ ap option_copied c.in-None.is)

pub returns-in-Ok-clause-next : goal.returns-in-Ok-clause-next
returns-in-Ok-clause-next g c = λ t. (
  c.in-Ok.ensures.kept ∙ c.requires.none,
  next-at c.args.graph.now.book.run.shape c.args.script.now c.args.at c.do_step-did.new.caller.chair
      (step-more c.args.graph.now.book.run.shape c.args.script.now c.args.caller.now.chair c.do_step-did.new.caller.chair c.args.at c.in-Some.step.now (sym c.in-Some.ensures.value) c.in-Ok.ensures.done c.number.ensures.own
      (caller-is c.do_step-did.new.caller.chair.party c.number.result c.number.ensures.number) c.requires.at),
)

pub returns-in-Err-clause-followed : goal.returns-in-Err-clause-followed
returns-in-Err-clause-followed g c = λ t.
    step-stopped c.args.graph.now.book.run.shape c.args.script.now c.args.caller.now.chair c.do_step-did.new.caller.chair c.args.at c.in-Some.step.now (sym c.in-Some.ensures.value) c.in-Err.ensures.stopped c.number.ensures.own c.requires.none c.requires.at
