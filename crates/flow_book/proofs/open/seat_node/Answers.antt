use Rattle.flow_item.specs.declared.event.Party.TheVariants.{Node}
use Rattle.flow_book.specs.Opening.{with_nodes}
use Rattle.flow_book.proofs.Starts.{last-node, out-last, some-last}
use Rattle.flow_book.proofs.open.seat_node.Goals as goal

pub take_last-requires : goal.take_last-requires
take_last-requires g c = some-last c.args.run.now c.args.items c.args.events (with_nodes c.args.run.now c.args.n) _ (Node c.args.n) c.args.chairs.now.items (last-node c.args.run.now c.args.n) c.requires.chairs

pub of_run-requires-clause-chair : goal.of_run-requires-clause-chair
of_run-requires-clause-chair g c =
    (out-last c.args.run.now c.args.items c.args.events (with_nodes c.args.run.now c.args.n) _ (Node c.args.n) c.args.chairs.now.items c.take_last.new.chairs.items c.take_last.result (last-node c.args.run.now c.args.n) c.requires.chairs c.take_last.ensures).1

pub returns : goal.returns
returns g c =
    (out-last c.args.run.now c.args.items c.args.events (with_nodes c.args.run.now c.args.n) _ (Node c.args.n) c.args.chairs.now.items c.take_last.new.chairs.items c.take_last.result (last-node c.args.run.now c.args.n) c.requires.chairs c.take_last.ensures).0
