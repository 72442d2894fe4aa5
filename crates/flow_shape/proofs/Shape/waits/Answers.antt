use Rattle.std.proofs.Common.{arith}
use Rattle.flow_shape.proofs.Sorting.{count-read}
use Rattle.flow_shape.proofs.Shape.waits.Goals as goal

pub overflow_add-index_mut : goal.overflow_add-index_mut
overflow_add-index_mut c =
    let most = count-read c.args.self.now c.as_slice-edge-items.result.now c.loop-edge.counts.items c.loop-edge.edge-index _ c.index_mut.result.now c.as_slice-edge-items.ensures c.requires.joined c.requires.few c.loop-edge.invariant c.loop-edge-test.true c.index_mut.ensures.value in
    omega (arith, most)
