use Rattle.std.proofs.Common.{refl}
use Rattle.flow_store.specs.Stores.{queue_of}
use Rattle.flow_tests_parts.proofs.store.oldest_goes_first.Goals as goal

pub hold-requires : goal.hold-requires
hold-requires g c = (queue_of c.give.new.store, refl)

pub hold-requires-2 : goal.hold-requires-2
hold-requires-2 g c = (queue_of c.puts-3.new.store, refl)

pub take-requires-clause-single : goal.take-requires-clause-single
take-requires-clause-single g c = (queue_of c.give-2.new.store, refl)
