use Rattle.flow_tests_book.proofs.Nodes.{one-valid, one-built, opened}
use Rattle.flow_tests_book.proofs.node.opened_node.Goals as goal

pub new-requires-clause-valid : goal.new-requires-clause-valid
new-requires-clause-valid g c = one-valid c.in-Ok.shape (opened c.in-Ok.shape _ c.in-Ok.ensures c.requires.kind)

pub new-requires-clause-built : goal.new-requires-clause-built
new-requires-clause-built g c = one-built c.in-Ok.shape (opened c.in-Ok.shape _ c.in-Ok.ensures c.requires.kind)
