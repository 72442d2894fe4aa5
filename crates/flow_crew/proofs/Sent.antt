-- That callers and workers may go to other threads.
use denote.RattleType.{RattleType}
use denote.Param.Send.{IsSend, sendable}
use denote.Param.SendFields.{declared_send}
use Rattle.std.proofs.Crossing.{crosses}
use Rattle.flow_line.proofs.chair.Chair.TheSendSync as chair
use Rattle.flow_line.specs.declared.naming.Naming
use Rattle.flow_pool.proofs.post.Post.TheSendSync as post
use Rattle.flow_book.proofs.SentEvents.{event-send}
use Rattle.flow_crew.specs.contracts.worker.Worker as W
use Rattle.flow_crew.specs.contracts.caller.Caller as C

module _ (B : RattleType) (n : Naming.Ghosts B.Denot) where
  pub worker-send : IsSend (W.the_row B n)
  worker-send = declared_send (W.the_type B n) (search (crosses, chair.the_send, post.the_send, event-send, sendable) depth 30)

  pub caller-send : IsSend (C.the_row B n)
  caller-send = declared_send (C.the_type B n) (search (crosses, chair.the_send, post.the_send, event-send, worker-send, sendable) depth 30)
