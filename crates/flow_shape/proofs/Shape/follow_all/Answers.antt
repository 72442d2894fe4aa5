use Rattle.std.proofs.Common.{◌≡◌, ◌≤◌, length, arith}
use Rattle.flow_shape.proofs.Sorting.{sort-ends}
use Rattle.flow_shape.proofs.Shape.follow_all.Goals as goal

pub returns : goal.returns
returns c =
    let past : length c.args.self.now.nodes ≤ c.loop-at.at = omega (arith, c.loop-at-test.false, c.len-at-end.ensures) in
    sort-ends c.args.self.now c.loop-at.at c.loop-at.counts c.loop-at.order.items past c.loop-at.invariant
