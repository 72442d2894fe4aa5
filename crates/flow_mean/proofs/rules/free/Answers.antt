use Rattle.std.proofs.Common.{◌≡◌, Some, length, refl, sym, ◌∙◌}
use Rattle.std.specs.Prelude.{slice_get}
use Rattle.std.proofs.lemmas.Option.{slice_get_read}
use Rattle.flow_shape.proofs.Sorting.{all-at}
use Rattle.flow_doc.specs.Fits.{kind_fits}
use Rattle.flow_mean.proofs.Least.{least-here, least-on}
use Rattle.flow_mean.proofs.rules.free.Goals as goal

pub has_free_body-requires : goal.has_free_body-requires
has_free_body-requires g c =
    let there = slice_get_read c.as_slice-kind-items.result.now (length c.as_slice-kind-items.result.now) c.loop-node.node c.kind-item.result refl c.loop-node-test.true c.kind-item.is in
    let at : slice_get c.args.doc.now.shape.nodes c.loop-node.node ≡ Some c.kind-item.result = rw c.as_slice-kind-items.ensures at there in
    all-at (kind_fits (length c.args.shelf.now.bodies.items)) c.args.doc.now.shape.nodes c.loop-node.node c.kind-item.result c.requires at

pub returns-then-has_free_body-clause-first : goal.returns-then-has_free_body-clause-first
returns-then-has_free_body-clause-first g c =
    let there = slice_get_read c.as_slice-kind-items.result.now (length c.as_slice-kind-items.result.now) c.loop-node.node c.kind-item.result refl c.loop-node-test.true c.kind-item.is in
    let at : slice_get c.args.doc.now.shape.nodes c.loop-node.node ≡ Some c.kind-item.result = rw c.as_slice-kind-items.ensures at there in
    least-here _ c.args.doc.now.shape.nodes c.loop-node.node c.kind-item.result _ at c.loop-node.invariant (sym (c.has_free_body.ensures c.args.doc.now c.loop-node.node) ∙ c.if-has_free_body.true)

pub loop-node-preserved : goal.loop-node-preserved
loop-node-preserved g c =
    let there = slice_get_read c.as_slice-kind-items.result.now (length c.as_slice-kind-items.result.now) c.loop-node.node c.kind-item.result refl c.loop-node-test.true c.kind-item.is in
    let at : slice_get c.args.doc.now.shape.nodes c.loop-node.node ≡ Some c.kind-item.result = rw c.as_slice-kind-items.ensures at there in
    least-on _ c.args.doc.now.shape.nodes c.loop-node.node c.kind-item.result _ at c.loop-node.invariant (sym (c.has_free_body.ensures c.args.doc.now c.loop-node.node) ∙ c.if-has_free_body.false)
