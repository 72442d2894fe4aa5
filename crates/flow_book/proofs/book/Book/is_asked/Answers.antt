use Rattle.std.proofs.Common.{length, ap, arith}
use Rattle.flow_machine.specs.State.{PlacedNode}
use Rattle.flow_machine.specs.Readers.{tickets_of}
use Rattle.flow_book.proofs.Ended.{tickets-few}
use Rattle.flow_book.proofs.book.Book.is_asked.Goals as goal

pub has_ticket-requires : goal.has_ticket-requires
has_ticket-requires g c =
    let le = tickets-few c.args.post.now.chair c.args.post.now.node (record { setup = c.args.self.now.run; items = c.args.self.now.items; events = c.args.self.now.events }) c.args.ask.now.node c.known.ensures.replay c.requires.node c.requires.of c.known.ensures.legal c.known.ensures.own in
    let same = ap (λ (u : PlacedNode). length (tickets_of u.state.part)) c.node.ensures.node in
    let short = c.args.self.now.short in
    omega (arith, le, same, short)
