use Rattle.std.proofs.Common.{◌≡◌, false, take}
use Rattle.std.specs.List.{list_any}
use Rattle.flow_machine.specs.Offers.{is_claim}
use Rattle.flow_store.proofs.places.place_claimed.Given as goal

-- none of those before is the claim
abbrev pub invariant-search : goal.invariant-search
invariant-search l = list_any (is_claim l.edge l.no) (take l.place l.claims.items) ≡ false
