use Rattle.std.proofs.Common.{refl}
use Rattle.flow_store.specs.Stores.{queue_of}
use Rattle.flow_tests_parts.proofs.store.full_buffer_bars.Goals as goal

pub hold-requires : goal.hold-requires
hold-requires g c = (queue_of c.puts-3.new.store, refl)

pub take-requires-clause-single : goal.take-requires-clause-single
take-requires-clause-single g c = (queue_of c.hold.new.store, refl)
