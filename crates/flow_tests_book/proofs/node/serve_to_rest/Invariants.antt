use Rattle.flow_tests_book.specs.Nodes.{Works}
use Rattle.flow_tests_book.proofs.node.serve_to_rest.Given as goal

abbrev pub invariant-loop-made : goal.invariant-loop-made
invariant-loop-made g l = Works l.book.run l.book.items l.book.events l.w
