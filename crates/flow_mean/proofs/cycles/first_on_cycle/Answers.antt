use Rattle.std.proofs.Common.{◌≡◌, Some, length, refl, sym, ◌∙◌}
use Rattle.std.specs.Prelude.{slice_get}
use Rattle.std.proofs.lemmas.Option.{slice_get_read}
use Rattle.flow_mean.specs.Determinate.{is_on_cycle}
use Rattle.flow_mean.proofs.Least.{least-on}
use Rattle.flow_mean.proofs.cycles.first_on_cycle.Goals as goal

pub loop-node-preserved : goal.loop-node-preserved
loop-node-preserved c =
    let there = slice_get_read c.as_slice-kind-items.result.now (length c.as_slice-kind-items.result.now) c.loop-node.node c._kind-item.result refl c.loop-node-test.true c._kind-item.is in
    let at : slice_get c.args.shape.now.nodes c.loop-node.node ≡ Some c._kind-item.result = rw c.as_slice-kind-items.ensures at there in
    least-on (λ n k. is_on_cycle c.args.shape.now n) c.args.shape.now.nodes c.loop-node.node c._kind-item.result _ at c.loop-node.invariant (sym c.in_ok-is_on_cycle.ensures ∙ c.if-branch.false)
