use Rattle.std.proofs.Common.{refl}
use Rattle.flow_tests_parts.proofs.store.tags_go_in_order.Goals as goal

pub hold-requires : goal.hold-requires
hold-requires g c = (c.puts-9.new.store.state, refl)
