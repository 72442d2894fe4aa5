use Rattle.flow_book.specs.Answers.{IsSame}
use Rattle.flow_book.specs.Stopped.{KeepsRefused}
use Rattle.flow_crew.proofs.graph.Graph.refusal.Given as goal

abbrev pub invariant-loop : goal.invariant-loop
invariant-loop g l = (goal.iterator-loop g).can_next l.iterator' × (goal.iterator-loop g).is_finite l.iterator' × IsSame l.initial.c l.c × KeepsRefused l.c
