-- Small events and small ledgers.
use Rattle.std.specs.Prelude.{ℕ, ◌<◌, length}
use Rattle.flow_item.specs.declared.event.Event.{Event}
use Rattle.flow_item.specs.declared.event.Event.TheVariants as E
use Rattle.flow_tally.specs.declared.tallies.Tally.{Tally}

-- the most that an event adds to a number of a ledger, beside one
abbrev pub load : Event → ℕ
load (E.End w m i number outs) = length outs
load (E.Back w m i number outs) = length outs
load (E.Split m i number outs) = length outs
load (E.Form m number parts) = length parts
load (E.Cancel c m dropped) = dropped
load e = 0

-- the numbers of the ledger are below a thousand
pub record IsLow (t : Tally) : Type 0 where
  pub came : t.came < 1000
  pub out : t.out < 1000
  pub eaten : t.eaten < 1000
  pub lost : t.lost < 1000
  pub over : t.over < 1000
