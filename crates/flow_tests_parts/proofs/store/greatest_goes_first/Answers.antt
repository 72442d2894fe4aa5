use Rattle.std.proofs.Common.{refl}
use Rattle.flow_store.specs.Stores.{ranks_of}
use Rattle.flow_tests_parts.proofs.store.greatest_goes_first.Goals as goal

pub hold-requires : goal.hold-requires
hold-requires g c = (ranks_of c.puts-6.new.store, refl)

pub take-requires-clause-single : goal.take-requires-clause-single
take-requires-clause-single g c = (ranks_of c.give-6.new.store, refl)
