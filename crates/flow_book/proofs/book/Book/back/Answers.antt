use Rattle.std.proofs.Common.{ap, ◌∙◌, arith}
use Rattle.flow_book.specs.Jobs.{outs_back}
use Rattle.flow_book.proofs.Ended.{brought-on, brings-on}
use Rattle.flow_book.proofs.Stored.{halted-shows}
use Rattle.flow_book.proofs.book.Book.back.Goals as goal

pub returns-in-Ok-clause-took : goal.returns-in-Ok-clause-took
returns-in-Ok-clause-took g c =
    brought-on c.args.self.now.run.shape c.args.w.now c.look.new.c c.back_at.new.w c.args.ask.now c.args.outs c.in-Ok.took (record { party = c.look.ensures.rest.1; about = c.look.ensures.rest.2; own = c.look.ensures.rest.0; seen = c.look.ensures.seen; looks = omega (arith, c.look.ensures.looks) }, c.look.ensures.rest.3) (omega (arith, c.look.ensures.looks)) c.in-Ok.ensures.took

pub store-requires : goal.store-requires
store-requires g c = halted-shows _ _ _ _ c.in-Err.ensures.stopped

pub returns-in-Err-clause-stopped : goal.returns-in-Err-clause-stopped
returns-in-Err-clause-stopped g c =
    rw c.store.ensures (brings-on c.args.self.now.run.shape c.args.w.now c.look.new.c c.back_at.new.w c.args.ask.now c.args.outs c.in-Err.refused.1 (record { party = c.look.ensures.rest.1; about = c.look.ensures.rest.2; own = c.look.ensures.rest.0; seen = c.look.ensures.seen; looks = omega (arith, c.look.ensures.looks) }, c.look.ensures.rest.3) c.in-Err.ensures.stopped)

pub returns-in-Err-clause-outs : goal.returns-in-Err-clause-outs
returns-in-Err-clause-outs g c = c.in-Err.ensures.outs ∙ ap (λ k. outs_back k c.in-Err.refused.1 c.args.outs) c.look.ensures.rest.3
