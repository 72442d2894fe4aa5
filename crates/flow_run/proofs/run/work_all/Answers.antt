use Rattle.std.proofs.Common.{◌∙◌, sym, ap, rules}
use denote.Param.Send.{sendable}
use Rattle.flow_crew.proofs.Sent.{worker-send}
use Rattle.flow_run.proofs.SentSite.{site-sync}
use Rattle.flow_run.proofs.Changed.{map-same}
use Rattle.flow_run.proofs.run.work_all.Goals as goal

pub for_each_mut-requires-send-T : goal.for_each_mut-requires-send-T
for_each_mut-requires-send-T g c = λ κs _. search (worker-send, c.type_bounds, sendable) depth 20

pub for_each_mut-requires-sync-F : goal.for_each_mut-requires-sync-F
for_each_mut-requires-sync-F g c = λ κs _. search (site-sync, c.type_bounds, sendable) depth 20

pub returns-clause-parties : goal.returns-clause-parties
returns-clause-parties g c = map-same (λ w. w.chair.party) c.args.workers.now c.for_each_mut.new.s (search rules)
    (λ i d lt. let at = (c.for_each_mut.ensures i d lt).1 in ap (λ w. w.chair.party) (sym at.left) ∙ (at.call.1 ∙ ap (λ w. w.chair.party) at.argument_is))
