use Rattle.flow_node.proofs.FunctionLemmas.{Adding}
use Rattle.flow_node.proofs.function.add_casts.Given as goal

abbrev pub invariant-loop-k : goal.invariant-loop-k
invariant-loop-k l = Adding l.base.outs.items l.base.node l.number l.outs l.k l.initial.casts.items l.casts.items
