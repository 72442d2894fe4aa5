use Rattle.std.proofs.Common.{◌<◌, length, refl, arith, heap_items}
use Rattle.std.specs.BinaryHeap.{heap_len}
use Rattle.flow_join.proofs.Counts.{top-counted, least-of}
use Rattle.flow_join.proofs.key.least_tag.Goals as goal

pub returns-in-Some : goal.returns-in-Some
returns-in-Some c =
    let rs = heap_items c.args.heap.now in
    let same = c.args.heap.now.data.ok.0 in
    let filled : 0 < heap_len c.args.heap.now = c.in-Some.ensures.variant.0 refl in
    let some : 0 < length rs = omega arith in
    (top-counted c.in-Some.field-0.now rs some c.in-Some.ensures.lookup, least-of c.in-Some.field-0.now rs (c.in-Some.ensures.greatest c.requires))
