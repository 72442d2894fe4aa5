use Rattle.std.proofs.Common.{◌++◌}
use Rattle.flow_book.proofs.Closing.{closed-beside}
use Rattle.flow_book.proofs.Handing.{nodes-after}
use Rattle.flow_book.proofs.book.Book.close_with_nodes.Goals as goal

pub returns : goal.returns
returns g c =
    let book = c.args.self in
    let kept = c.take_first_kept-kept in
    let taken = c.take_nodes-nodes in
    let told = closed-beside book.run book.items book.events c.of.result c.close2-journal.result.items kept.new.callers.items kept.new.workers.items taken.new.workers.items taken.ensures.chairs (c.args.seats.callers.items ++ c.args.seats.workers.items)
    book.valid c.of.ensures taken.ensures.behind kept.ensures.rest c.close2-journal.ensures c.requires.of c.requires.some in
    record {
      run = told.0.journal;
      parts = told.0.parts;
      kept = kept.ensures.value;
      limits = told.0.limits;
      edges = told.0.edges;
      holds = told.0.holds;
      node_limits = told.0.node_limits;
      ledger = told.0.ledger;
      fates = told.0.fates;
      lineages = told.0.lineages;
      reservations = told.0.reservations;
      settled = told.0.settled;
      released = told.0.released;
      parents = told.0.parents;
      nodes = nodes-after book.run book.items book.events c.of.result _ kept.new.workers.items taken.new.workers.items taken.result taken.ensures book.sized told.1;
    }
