use Rattle.std.proofs.Common.{sym}
use Rattle.flow_machine.specs.Enabled.{is_numbered}
use Rattle.flow_node.proofs.StoreLemmas.{front-found}
use Rattle.flow_node.proofs.store.StorePart.offered.Goals as goal

pub returns-in-Some : goal.returns-in-Some
returns-in-Some c = front-found (is_numbered c.args.no) _ c.in-Some.item.now c.in-Some.ensures

pub offered_later-requires : goal.offered_later-requires
offered_later-requires c = sym c.in-None.ensures
