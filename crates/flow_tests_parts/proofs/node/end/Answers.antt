use Rattle.std.proofs.Common.{eq-eqb}
use Rattle.flow_item.proofs.Tests.{both_true}
use Rattle.flow_machine.specs.Enabled.{is_numbered}
use Rattle.flow_node.specs.NodeViews.{running_items}
use Rattle.flow_tests_parts.proofs.TestLemmas.{some-found, running-ends}
use Rattle.flow_tests_parts.proofs.node.end.Goals as goal

pub apply_one-requires-clause-allowed : goal.apply_one-requires-clause-allowed
apply_one-requires-clause-allowed g c =
    let v = c.args.node.now.node in
    let runs = some-found (is_numbered c.args.item) (running_items v.state.part) c.is_none.result c.running.result c.is_none.ensures c.if-is_none.false c.running.ensures in
    rw (c.prepare.ensures.same) (both_true (eq-eqb _ _ c.made.ensures) (running-ends v.place.kind v.state.part c.args.item c.args.outs c.requires.plain runs))
