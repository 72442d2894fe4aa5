use Rattle.std.proofs.Common.{sym}
use Rattle.flow_gen.proofs.Shelves.{shelf_has}
use Rattle.flow.proofs.ShelfLengths.{shelf_length}
use Rattle.flow.proofs.serve_with.Goals as goal

pub serve_plain-requires : goal.serve_plain-requires
serve_plain-requires g c = record { generated = shelf_has (λ n. n.name) _ c.in_ok-shelf.shelf.bodies.items _ _ _ _ _ _ _ _ _ _ c.in_ok-shelf.ensures.shelved }

pub serve_run-requires-clause-count : goal.serve_run-requires-clause-count
serve_run-requires-clause-count g c = λ κs outlives. sym (shelf_length (λ n. n.name) _ c.in_ok-shelf.shelf.bodies.items _ _ _ _ _ _ _ _ _ _ c.in_ok-shelf.ensures.shelved)
