use Rattle.flow_node.proofs.FunctionLemmas.{function-refused}
use Rattle.std.proofs.Common.{◌≡◌, true, not, ap}
use Rattle.flow_shape.specs.Kinds.{is_discarding}
use Rattle.flow_node.specs.Joins.{rule_of}
use Rattle.flow_node.proofs.JoinLemmas.{join-switches}
use Rattle.flow_node.proofs.JoinSteps.{join-refused}
use Rattle.flow_node.proofs.part.Part.refuse.Goals as goal

pub returns-in-Function : goal.returns-in-Function
returns-in-Function c =
    let whole = rw (c.in-Function.is) at c.requires.whole in
    let open_for = rw (c.in-Function.is) at c.requires.open in
    rw (c.in-Function.is) (function-refused c.args.base.now c.in-Function.function c.refuse.new.self c.args.edge whole open_for c.refuse.ensures)

pub returns-in-Join : goal.returns-in-Join
returns-in-Join c =
    let switching : not (is_discarding (rule_of c.in-Join.field-0.inputs)) ≡ true = ap not (join-switches c.in-Join.field-0.inputs) in
    rw (c.in-Join.is, switching) (join-refused c.args.base.now.outs.items c.in-Join.field-0 c.args.edge)
