use Rattle.flow_nodes.proofs.StepLemmas.{takes-first, takes-one, can-stay, nodes-stay, one-end, one-stepped}
use Rattle.flow_nodes.proofs.nodes.Nodes.apply_one.Goals as goal

pub prepare-requires : goal.prepare-requires
prepare-requires c = c.requires.can.within c.args.a (takes-first _ _ c.requires.first)

pub returns-in-Err-clause-err : goal.returns-in-Err-clause-err
returns-in-Err-clause-err c = nodes-stay c.prepare.ensures.same

pub step_one-requires-clause-within : goal.step_one-requires-clause-within
step_one-requires-clause-within c = (can-stay c.args.e.now c.prepare.ensures.same c.requires.can).within c.args.a (takes-first _ _ c.requires.first)

pub step_one-requires-clause-may : goal.step_one-requires-clause-may
step_one-requires-clause-may c = (can-stay c.args.e.now c.prepare.ensures.same c.requires.can).may c.args.a (takes-first _ _ c.requires.first)

pub step_one-requires-clause-alone : goal.step_one-requires-clause-alone
step_one-requires-clause-alone c = one-end c.args.e.now c.requires.can.apart c.requires.second

pub returns-clause-ok : goal.returns-clause-ok
returns-clause-ok c = one-stepped c.args.e.now c.args.a c.prepare.ensures.same c.step_one.ensures (λ k. takes-one _ _ k c.requires.first c.requires.second)
