use Rattle.std.proofs.Common.{sym, ◌∙◌}
use Rattle.flow_book.proofs.Stored.{shows-limit}
use Rattle.flow_book.proofs.stopper.Stopper.store.Goals as goal

pub invariant_of-self : goal.invariant_of-self
invariant_of-self g c =
    record { reached = λ h. shows-limit c.args.c.now c.tell.new.to c.args.stop c.requires.shown h (c.tell.ensures.to_rest.2 ∙ sym c.tell.ensures.about) c.tell.ensures.from_seen }
