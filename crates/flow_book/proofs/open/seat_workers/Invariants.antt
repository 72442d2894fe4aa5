use Rattle.std.proofs.Common.{◌≡◌, ◌≤◌, ◌+◌, ◌-◌, map}
use Rattle.flow_item.specs.declared.event.Party.TheVariants.{Worker}
use Rattle.flow_book.specs.Opening.{numbers_below, with_workers, fresh_chairs}
use Rattle.flow_book.proofs.open.seat_workers.Given as goal

-- the chairs of the workers that are left, those of the workers before them, and room for the others
abbrev pub invariant-loop-n : goal.invariant-loop-n
invariant-loop-n g l = record {
  left : l.chairs.items ≡ fresh_chairs l.run l.items l.events (with_workers l.run l.n (l.run.workers + 1 - l.n));
  out : l.workers.items ≡ fresh_chairs l.run l.items l.events (map Worker (numbers_below l.n));
  room : l.run.workers ≤ l.workers.spare + l.n;
}
