use Rattle.std.proofs.Common.{◌≡◌, false, take}
use Rattle.std.specs.List.{list_any}
use Rattle.flow_machine.specs.Enabled.{is_numbered}
use Rattle.flow_store.proofs.places.place_numbered.Given as goal

-- none of those before has the number
abbrev pub invariant-search : goal.invariant-search
invariant-search l = list_any (is_numbered l.no) (take l.place l.items.items) ≡ false
