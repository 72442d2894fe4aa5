use Rattle.flow_tests_parts.proofs.TestLemmas.{wish-shuts}
use Rattle.flow_tests_parts.proofs.node.shut.Goals as goal

pub apply_one-requires-clause-allowed : goal.apply_one-requires-clause-allowed
apply_one-requires-clause-allowed g c =
    let v = c.args.node.now.node in
    rw (c.prepare.ensures.same) (wish-shuts v.place v.state c.in-Shut.item c.in-Shut.ended c.in-Shut.ensures)
