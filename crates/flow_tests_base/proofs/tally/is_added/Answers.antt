use Rattle.flow_tests_base.proofs.tally.is_added.Goals as goal

pub add-requires-clause-fits : goal.add-requires-clause-fits
add-requires-clause-fits c = c.two_are_small-small.ensures.fits c.if-small.true
