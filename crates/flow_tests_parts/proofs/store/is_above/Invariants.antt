use Rattle.std.proofs.Common.{◌≡◌, drop}
use Rattle.flow_machine.specs.Readers.{own_items}
use Rattle.flow_store.specs.Stores.{is_new}
use Rattle.flow_tests_parts.proofs.store.is_above.Given as goal

abbrev pub invariant-loop-k : goal.invariant-loop-k
invariant-loop-k g l = is_new l.number (drop l.k (own_items (g.S.Store.part l.store))) ≡ is_new l.number (own_items (g.S.Store.part l.store))
