use Rattle.std.proofs.Common.{None, sym, ◌∙◌}
use Rattle.flow_tests_parts.proofs.TestLemmas.{event-forms}
use Rattle.flow_tests_parts.proofs.node.form.Goals as goal

pub apply_one-requires-clause-allowed : goal.apply_one-requires-clause-allowed
apply_one-requires-clause-allowed g c =
    let v = c.args.node.now.node in
    let formed = c.in_ok-no in
    rw (c.prepare.ensures.same) (event-forms v (λ x. None) 0 _ formed.no formed.parts (sym formed.ensures.1 ∙ c.wished_tuple.ensures))
