use Rattle.std.proofs.Common.{◌∙◌, sym, ap, rules}
use denote.Param.Send.{sendable}
use Rattle.flow_crew.proofs.Sent.{caller-send}
use Rattle.flow_run.proofs.SentSite.{site-sync}
use Rattle.flow_run.proofs.Changed.{map-same}
use Rattle.flow_run.proofs.run.follow_all.Goals as goal

pub for_each_mut-requires-send-T : goal.for_each_mut-requires-send-T
for_each_mut-requires-send-T g c = λ κs _. search (caller-send, c.type_bounds, sendable) depth 20

pub for_each_mut-requires-sync-F : goal.for_each_mut-requires-sync-F
for_each_mut-requires-sync-F g c = λ κs _. search (site-sync, c.type_bounds, sendable) depth 20

pub returns-clause-parties : goal.returns-clause-parties
returns-clause-parties g c = map-same (λ k. k.chair.party) c.args.callers.now c.for_each_mut.new.s (search rules)
    (λ i d lt. let at = (c.for_each_mut.ensures i d lt).1 in ap (λ k. k.chair.party) (sym at.left) ∙ (at.call.1.0 ∙ ap (λ k. k.chair.party) at.argument_is))

pub returns-clause-waiters : goal.returns-clause-waiters
returns-clause-waiters g c = map-same (λ k. k.worker.chair.party) c.args.callers.now c.for_each_mut.new.s (search rules)
    (λ i d lt. let at = (c.for_each_mut.ensures i d lt).1 in ap (λ k. k.worker.chair.party) (sym at.left) ∙ (at.call.1.1 ∙ ap (λ k. k.worker.chair.party) at.argument_is))
