use Rattle.std.proofs.Common.{◌≡◌, Some, sym, ap, ◌∙◌, subst}
use Rattle.std.specs.Prelude.{slice_get}
use Rattle.std.specs.List.{find}
use Rattle.std.specs.Option.{option_copied}
use Rattle.flow_shape.specs.declared.Kind.{Kind}
use Rattle.flow_machine.specs.Enabled.{is_numbered}
use Rattle.flow_machine.specs.Machine.{state_of}
use Rattle.flow_machine.specs.State.{PlacedNode}
use Rattle.flow_node.specs.NodeViews.{running_items}
use Rattle.flow_work.specs.Runs.{Run}
use Rattle.flow_work.specs.Tasks.{Runs}
use Rattle.flow_work.proofs.FinishLemmas.{running}
use Rattle.flow_work.proofs.ProposeLemmas.{node-within, node-seen}
use Rattle.flow_work.proofs.run.PlainRun.job_item.Goals as goal

pub node-requires : goal.node-requires
node-requires c =
    let r : Run = record { shape = c.self.inside.shape.now; callers = c.self.inside.callers.now; items = c.self.inside.items; events = c.self.inside.events; journal = c.self.inside.journal.items } in
    let kept = c.self.invariant in
    let runs = subst (λ (r : Run). Runs r c.args.node c.args.item) (sym c.self.view_is) c.requires in
    let s = running r c.args.node c.args.item kept.runnable kept.journal runs in
    node-within r.shape r.journal c.self.inside.nodes kept.nodes_are c.args.node s.kind s.at

pub unreachable-requires : goal.unreachable-requires
unreachable-requires c =
    let r : Run = record { shape = c.self.inside.shape.now; callers = c.self.inside.callers.now; items = c.self.inside.items; events = c.self.inside.events; journal = c.self.inside.journal.items } in
    let kept = c.self.invariant in
    let runs = subst (λ (r : Run). Runs r c.args.node c.args.item) (sym c.self.view_is) c.requires in
    let s = running r c.args.node c.args.item kept.runnable kept.journal runs in
    let seen = node-seen r.shape r.journal c.self.inside.nodes kept.nodes_are c.args.node s.kind s.at c.node.result.now c.node.ensures in
    s.body.found (sym (ap (λ (v : PlacedNode). find (is_numbered c.args.item) (running_items v.state.part)) seen) ∙ (sym c.running.ensures ∙ ap option_copied c.in-None.is))

pub returns : goal.returns
returns c =
    let r : Run = record { shape = c.self.inside.shape.now; callers = c.self.inside.callers.now; items = c.self.inside.items; events = c.self.inside.events; journal = c.self.inside.journal.items } in
    let kept = c.self.invariant in
    subst (λ (r : Run). (k : Kind) → slice_get r.shape.nodes c.args.node ≡ Some k → find (is_numbered c.args.item) (running_items (state_of r.shape c.args.node k r.journal).part) ≡ Some c.in-Some.item.now) c.self.view_is
    (λ k at.
    let seen = node-seen r.shape r.journal c.self.inside.nodes kept.nodes_are c.args.node k at c.node.result.now c.node.ensures in
    sym (ap (λ (v : PlacedNode). find (is_numbered c.args.item) (running_items v.state.part)) seen) ∙ (sym c.running.ensures ∙ ap option_copied c.in-Some.is))
