use Rattle.std.proofs.Common.{arith}
use Rattle.flow_mean.proofs.Leaving.{out-read}
use Rattle.flow_mean.proofs.tables.counts_of.Goals as goal

pub overflow_add-index_mut : goal.overflow_add-index_mut
overflow_add-index_mut c =
    let most = out-read c.args.shape.now c.as_slice-edge-items.result.now c.loop-edge.outs.items c.loop-edge.edge-index _ c.index_mut.result.now c.as_slice-edge-items.ensures c.requires.joined c.requires.few c.loop-edge.invariant c.loop-edge-test.true c.index_mut.ensures.value in
    omega (arith, most)
