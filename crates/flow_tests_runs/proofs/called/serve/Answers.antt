use Rattle.flow_gen.proofs.Shelves.{shelf_has}
use Rattle.flow_tests_runs.proofs.ShelfLengths.{shelf_length}
use Rattle.flow_tests_runs.proofs.called.serve.Goals as goal

pub threads_call-requires-clause-count : goal.threads_call-requires-clause-count
threads_call-requires-clause-count g c = λ κs outlives. shelf_length (λ n. n.name) _ c.in-Ok.shelf.bodies.items _ _ _ _ _ _ _ _ _ _ c.in-Ok.ensures.shelved

pub plain_call-requires : goal.plain_call-requires
plain_call-requires g c = shelf_has (λ n. n.name) _ c.in-Ok.shelf.bodies.items _ _ _ _ _ _ _ _ _ _ c.in-Ok.ensures.shelved
