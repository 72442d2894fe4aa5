use denote.Param.Send.{sendable}
use Rattle.flow_crew.proofs.Sent.{worker-send}
use Rattle.flow_run.proofs.SentSite.{site-sync}
use Rattle.flow_run.proofs.run.join_parts.Goals as goal

pub join_mut-requires-send-F : goal.join_mut-requires-send-F
join_mut-requires-send-F g c = λ κs _. search (worker-send, site-sync, c.type_bounds, sendable) depth 20
