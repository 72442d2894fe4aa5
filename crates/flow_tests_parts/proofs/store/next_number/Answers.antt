use Rattle.std.proofs.Common.{rules}
use Rattle.flow_tests_parts.proofs.Playing.{first-goes}
use Rattle.flow_tests_parts.proofs.store.next_number.Goals as goal

pub returns-in-Some : goal.returns-in-Some
returns-in-Some g c = first-goes (g.S.Store.kind c.args.store.now) (g.S.Store.part c.args.store.now) c.in-Some.item.now (search rules)
