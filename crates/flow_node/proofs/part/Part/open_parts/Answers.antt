use Rattle.std.proofs.Common.{◌≡◌, ◌+◌, map, refl, arith}
use Rattle.flow_item.proofs.Tests.{and_left}
use Rattle.flow_machine.specs.OpenParts.{open_bodies, holds_in}
use Rattle.flow_node.specs.Parts.{cast_in, function_part, are_roomy}
use Rattle.flow_node.proofs.FunctionLemmas.{roomy-free}
use Rattle.flow_node.proofs.JoinSteps.{slot-free}
use Rattle.flow_node.proofs.part.Part.open_parts.Goals as goal

pub returns-in-Function : goal.returns-in-Function
returns-in-Function c =
    let f = c.in-Function.function in
    let outs = c.args.base.now.outs.items in
    let whole = rw (c.in-Function.is) at c.requires.whole in
    let none : holds_in (map cast_in f.outbox) ≡ 0 = roomy-free outs f.outbox (and_left (are_roomy outs f.outbox) (are_roomy outs f.coming) whole) in
    let same : open_bodies (function_part f) + 0 ≡ open_bodies (function_part f) = omega arith in
    rw (c.in-Function.is, none, same) c.open_bodies.ensures

pub returns-in-Join : goal.returns-in-Join
returns-in-Join c =
    let whole = rw (c.in-Join.is) at c.requires.whole in
    rw (c.in-Join.is, slot-free c.args.base.now.outs.items c.in-Join.field-0 whole) refl
