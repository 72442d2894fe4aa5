use Rattle.std.proofs.Common.{◌≡◌, drop}
use Rattle.flow_machine.specs.Wishes.{offer_wish}
use Rattle.flow_node.proofs.JoinLemmas.{place, state}
use Rattle.flow_node.proofs.join.JoinPart.offer_wish.Given as goal

-- nothing may go over the edges before
abbrev pub invariant-loop-k : goal.invariant-loop-k
invariant-loop-k l = offer_wish (place l.base l.self) (state l.base l.self) (drop l.k l.base.push.items) ≡ offer_wish (place l.base l.self) (state l.base l.self) l.base.push.items
