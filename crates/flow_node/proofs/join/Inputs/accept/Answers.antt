use Rattle.std.proofs.Common.{◌≤◌, [], ◌∷◌, ◌++◌, length, sym, ap, ◌∙◌, arith}
use Rattle.flow_shape.specs.declared.Kind.TheVariants as K
use Rattle.flow_machine.proofs.Frames.{length-change_at}
use Rattle.flow_join.specs.Queues.{RoomyQueueJoin}
use Rattle.flow_join.specs.Keys.{RoomyKeyJoin}
use Rattle.flow_node.specs.Joins.{ports_of}
use Rattle.flow_node.proofs.JoinLemmas.{past-ports}
use Rattle.flow_node.proofs.join.Inputs.accept.Goals as goal

pub returns-then-port-ports-clause-ports : goal.returns-then-port-ports-clause-ports
returns-then-port-ports-clause-ports c =
    let past : length (ports_of c.args.self.now) ≤ c.args.port = omega arith in
    sym (past-ports (λ q. q ++ c.args.item ∷ []) c.args.port (ports_of c.args.self.now) past)

pub returns-in-Queue-clause-rule : goal.returns-in-Queue-clause-rule
returns-in-Queue-clause-rule c =
    rw (c.in-Queue.is) (ap (λ n. K.QueueJoin n) (ap (λ (v : RoomyQueueJoin). length v.ports) c.accept.ensures ∙ length-change_at (λ q. q ++ c.args.item ∷ []) c.args.port c.in-Queue.join.ports))

pub returns-in-Key-clause-rule : goal.returns-in-Key-clause-rule
returns-in-Key-clause-rule c =
    rw (c.in-Key.is) (ap (λ n. K.KeyJoin n) (ap (λ (v : RoomyKeyJoin). length v.ports) c.accept-in-Key.ensures ∙ length-change_at (λ q. q ++ c.args.item ∷ []) c.args.port c.in-Key.join.ports))
