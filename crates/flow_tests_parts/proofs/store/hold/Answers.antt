use Rattle.flow_tests_parts.proofs.Playing.{free-before, held-then, no-hold-room}
use Rattle.flow_tests_parts.proofs.store.hold.Goals as goal

pub hold-requires-clause-free : goal.hold-requires-clause-free
hold-requires-clause-free g c = free-before (g.S.Store.kind c.args.store.now) (g.S.Store.part c.args.store.now) c.requires.0 4 c.in_ok-number.number c.requires.1 c.in_ok-number.ensures

pub hold-requires-clause-room : goal.hold-requires-clause-room
hold-requires-clause-room g c = no-hold-room (g.S.Store.part c.args.store.now) c.requires.0 _ c.requires.1

pub free-requires : goal.free-requires
free-requires g c = rw (c.hold.ensures.part) (held-then (g.S.Store.part c.args.store.now) c.requires.0 4 c.in_ok-number.number c.requires.1)
