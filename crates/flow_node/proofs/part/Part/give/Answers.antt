use Rattle.flow_machine.specs.Enabled.{is_numbered}
use Rattle.flow_node.proofs.FunctionLemmas.{function-given}
use Rattle.flow_node.proofs.NodeLemmas.{any-open}
use Rattle.flow_node.proofs.JoinSteps.{join-given}
use Rattle.flow_node.proofs.part.Part.give.Goals as goal

pub returns-in-Function : goal.returns-in-Function
returns-in-Function c =
    let whole = rw (c.in-Function.is) at c.requires.whole in
    let allowed = rw (c.in-Function.is) at c.requires.allowed in
    rw (c.in-Function.is) (function-given c.args.base.now c.in-Function.function c.give-in-Function.new.self c.args.edge whole (any-open (is_numbered c.args.no) _ allowed) c.args.no c.give-in-Function.ensures)

pub returns-in-Join : goal.returns-in-Join
returns-in-Join c =
    let whole = rw (c.in-Join.is) at c.requires.whole in
    let allowed = rw (c.in-Join.is) at c.requires.allowed in
    rw (c.in-Join.is) (join-given c.args.base.now c.in-Join.join c.give-in-Join.new.self c.args.edge c.args.no whole (any-open (is_numbered c.args.no) _ allowed) c.give-in-Join.ensures)
