use Rattle.std.proofs.Common.{take, sym, ap, ◌∙◌}
use Rattle.flow_nodes.specs.Rows.{nodes_of}
use Rattle.flow_nodes.specs.Stepping.{all_stepped}
use Rattle.flow_nodes.proofs.RowLemmas.{can-apply, nodes_of-snoc}
use Rattle.flow_nodes.proofs.ReplayLemmas.{taken, legal-next}
use Rattle.flow_nodes.proofs.after.replay.Goals as goal

pub apply-requires : goal.apply-requires
apply-requires c =
    let es = c.args.journal.now in
    let e = c.event_at-e.result.now in
    let next = legal-next c.args.shape.now es c.loop-at.at e c.requires.legal c.event_at-e.ensures in
    record { can = can-apply c.args.shape.now (take c.loop-at.at es) e c.loop-at.nodes c.loop-at.invariant c.requires.valid c.requires.built next.0 next.1 }

pub loop-at-preserved : goal.loop-at-preserved
loop-at-preserved c =
    let es = c.args.journal.now in
    let e = c.event_at-e.result.now in
    let shape = c.args.shape.now in
    c.in_ok-apply.ensures.ok ∙ ap (all_stepped e) c.loop-at.invariant ∙ sym (nodes_of-snoc shape (take c.loop-at.at es) e) ∙ ap (nodes_of shape) (sym (taken es c.loop-at.at e c.event_at-e.ensures))
