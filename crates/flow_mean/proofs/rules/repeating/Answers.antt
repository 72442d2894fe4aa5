use Rattle.std.proofs.Common.{◌≡◌, Some, length, refl, sym, ◌∙◌}
use Rattle.std.specs.Prelude.{slice_get}
use Rattle.std.proofs.lemmas.Option.{slice_get_read}
use Rattle.flow_mean.specs.Determinate.{repeats_tag}
use Rattle.flow_mean.proofs.Least.{least-here, least-on}
use Rattle.flow_mean.proofs.rules.repeating.Goals as goal

pub returns-then-repeats-node-clause-first : goal.returns-then-repeats-node-clause-first
returns-then-repeats-node-clause-first c = λ m are.
    let there = slice_get_read c.as_slice-kind-items.result.now (length c.as_slice-kind-items.result.now) c.loop-node.node c.kind-item.result refl c.loop-node-test.true c.kind-item.is in
    let at : slice_get c.args.doc.now.shape.nodes c.loop-node.node ≡ Some c.kind-item.result = rw c.as_slice-kind-items.ensures at there in
    least-here (repeats_tag m c.args.doc.now) c.args.doc.now.shape.nodes c.loop-node.node c.kind-item.result _ at (c.loop-node.invariant m are) (sym (are.1 c.loop-node.node c.kind-item.result at) ∙ c.if-repeats-node.true)

pub loop-node-preserved : goal.loop-node-preserved
loop-node-preserved c = λ m are.
    let there = slice_get_read c.as_slice-kind-items.result.now (length c.as_slice-kind-items.result.now) c.loop-node.node c.kind-item.result refl c.loop-node-test.true c.kind-item.is in
    let at : slice_get c.args.doc.now.shape.nodes c.loop-node.node ≡ Some c.kind-item.result = rw c.as_slice-kind-items.ensures at there in
    least-on (repeats_tag m c.args.doc.now) c.args.doc.now.shape.nodes c.loop-node.node c.kind-item.result _ at (c.loop-node.invariant m are) (sym (are.1 c.loop-node.node c.kind-item.result at) ∙ c.if-repeats-node.false)
