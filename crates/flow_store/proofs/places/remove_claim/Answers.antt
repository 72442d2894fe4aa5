use Rattle.std.proofs.Common.{◌∙◌}
use Rattle.flow_machine.specs.Offers.{is_claim}
use Rattle.flow_store.proofs.Firsts.{remove-first}
use Rattle.flow_store.proofs.places.remove_claim.Goals as goal

pub returns-clause-items : goal.returns-clause-items
returns-clause-items c = c.remove.ensures.items ∙ remove-first (is_claim c.args.edge c.args.no) _ _ c.place_claimed-place.ensures
