use Rattle.flow_join.proofs.Rings.{keeps-after, same-length}
use Rattle.flow_join.proofs.queue.QueueJoin.reserve.Goals as goal

pub invariant_of-self-in-Err : goal.invariant_of-self-in-Err
invariant_of-self-in-Err c =
    keeps-after _ _ c.self.inside.spare c.self.invariant (same-length _ _ c.reserve_each.ensures.items) c.reserve_each.ensures.kept
