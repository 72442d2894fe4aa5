use Rattle.std.proofs.Common.{◌≤◌, ◌∙◌, length, arith}
use Rattle.flow_book.proofs.Handing.{marked-none, marked-all, marked-next, within-marked}
use Rattle.flow_book.proofs.close.waiting.Goals as goal

pub loop-at-init : goal.loop-at-init
loop-at-init c = c.in_ok-due.ensures ∙ marked-none c.args.nodes.now

pub set-requires : goal.set-requires
set-requires c = within-marked c.args.nodes.now c.loop-at.at c.loop-at.due c.loop-at.invariant c.loop-at-test.true

pub loop-at-preserved : goal.loop-at-preserved
loop-at-preserved c =
    marked-next c.args.nodes.now c.loop-at.at c.index-nodes-at.result c.loop-at.due c.set.new.self c.is_waiting.result c.loop-at.invariant c.loop-at-test.true c.index-nodes-at.is c.is_waiting.ensures c.set.ensures

pub returns : goal.returns
returns c =
    let past : length c.args.nodes.now ≤ c.loop-at.at = omega (arith, c.loop-at-test.false) in
    c.loop-at.invariant ∙ marked-all c.args.nodes.now c.loop-at.at past
