use Rattle.std.proofs.Common.{ap}
use Rattle.flow_line.proofs.Hands.{own_begins, told_prefix, share_about}
use Rattle.flow_line.proofs.hand.tell.Goals as goal

pub returns-clause-from_begins : goal.returns-clause-from_begins
returns-clause-from_begins g c =
    told_prefix g.M.Machine.parties_of c.args.from.now.me.0 c.args.to.now.me.0 c.note-given.result.me.0 c.meet.new.seat.me.0 c.confirm.new.seat.me.0 c.confirm.result
    (ap (λ me. me.0) c.note-given.ensures.note) (ap (λ me. me.0) c.meet.ensures.both) c.confirm.ensures.confirmed

pub returns-clause-to_begins : goal.returns-clause-to_begins
returns-clause-to_begins g c =
    own_begins g.M.Machine.parties_of c.args.to.now.me.0 c.note-given.result.me.0 c.meet.new.seat.me.0 c.confirm.new.seat.me.0 c.confirm.result
    (ap (λ me. me.0) c.meet.ensures.both) c.confirm.ensures.confirmed

pub returns-clause-about : goal.returns-clause-about
returns-clause-about g c =
    share_about g.M.Machine.parties_of c.args.from.now.me.0 c.args.to.now.me.0 c.note-given.result.me.0 c.meet.new.seat.me.0 c.confirm.new.seat.me.0 c.confirm.result
    (ap (λ me. me.0) c.note-given.ensures.note) (ap (λ me. me.0) c.meet.ensures.both) c.confirm.ensures.confirmed
