use Rattle.flow_nodes.proofs.StepLemmas.{none-stepped}
use Rattle.flow_nodes.proofs.nodes.Nodes.apply.Goals as goal

pub returns-in-Caller-default-clause-ok : goal.returns-in-Caller-default-clause-ok
returns-in-Caller-default-clause-ok c = none-stepped c.args.e.now _ (rw (← c.parties-first.ensures.value, c.in-Caller-default.is-0))
