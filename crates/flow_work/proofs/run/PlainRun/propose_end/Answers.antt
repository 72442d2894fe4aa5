use Rattle.std.proofs.Common.{sym, ap, ◌∙◌, subst}
use Rattle.flow_machine.specs.State.{PlacedNode}
use Rattle.flow_work.specs.Runs.{Run}
use Rattle.flow_work.specs.Tasks.{Runs}
use Rattle.flow_work.proofs.FinishLemmas.{running, end-at-view}
use Rattle.flow_work.proofs.ProposeLemmas.{node-within, node-seen}
use Rattle.flow_work.proofs.run.PlainRun.propose_end.Goals as goal

pub node-requires : goal.node-requires
node-requires g c =
    let r : Run = record { shape = c.self.inside.shape.now; callers = c.self.inside.callers.now; items = c.self.inside.items; events = c.self.inside.events; journal = c.self.inside.journal.items } in
    let kept = c.self.invariant in
    let runs = subst (λ (r : Run). Runs r c.args.node c.args.item) (sym c.self.view_is) c.requires.runs in
    let s = running r c.args.node c.args.item kept.runnable kept.journal runs in
    node-within r.shape r.journal c.self.inside.nodes kept.nodes_are c.args.node s.kind s.at

pub returns : goal.returns
returns g c =
    let r : Run = record { shape = c.self.inside.shape.now; callers = c.self.inside.callers.now; items = c.self.inside.items; events = c.self.inside.events; journal = c.self.inside.journal.items } in
    let kept = c.self.invariant in
    let runs = subst (λ (r : Run). Runs r c.args.node c.args.item) (sym c.self.view_is) c.requires.runs in
    let s = running r c.args.node c.args.item kept.runnable kept.journal runs in
    let seen = node-seen r.shape r.journal c.self.inside.nodes kept.nodes_are c.args.node s.kind s.at c.node.result.now c.node.ensures in
    end-at-view _ r c.args.self.now c.args.node c.args.item c.made.result c.in_ok-outs.outs c.self.view_is s c.requires.runs (c.made.ensures ∙ ap (λ (v : PlacedNode). v.state.made) seen) c.in_ok-outs.ensures
