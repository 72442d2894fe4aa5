-- A small event leaves a small ledger small.
use Rattle.std.proofs.Common.{◌≡◌, ◌+◌, ◌<◌, ◌≤◌, ◌^◌, ◌&&◌, ◌||◌, not, ℕ, zero, suc, Bool, true, false, nat_eq, if◌then◌else◌, length, arith}
use Rattle.flow_item.specs.declared.event.Event.{Event}
use Rattle.flow_item.specs.declared.event.Event.TheVariants as E
use Rattle.flow_item.specs.declared.event.PutAnswer.TheVariants.{Accepted, Refused}
use Rattle.flow_item.specs.declared.event.Land.{Land}
use Rattle.flow_item.specs.declared.event.Land.TheVariants as L
use Rattle.flow_item.specs.declared.event.Ended.TheVariants as Z
use Rattle.flow_shape.specs.declared.Kind.{Kind}
use Rattle.flow_shape.specs.Kinds.{is_single_push, is_async, is_input, is_hold_join}
use Rattle.flow_machine.specs.State.{one_if}
use Rattle.flow_machine.specs.Ledger.{is_continue, tally_add, came_by, out_by, landed_by, used_by, dropped_by, land_count}
use Rattle.flow_tally.specs.declared.tallies.Tally.{Tally}
use Rattle.flow_tally.specs.Tallies.{without_kept, IsSmall}
use Rattle.flow_tests_base.specs.Loads.{load, IsLow}

one_if_within : (b : Bool) → one_if b ≤ 1
one_if_within true = omega arith
one_if_within false = omega arith

count_within : (a b : Land) → land_count a b ≤ 1
count_within L.Eaten L.Eaten = omega arith
count_within L.Lost L.Lost = omega arith
count_within L.Over L.Over = omega arith
count_within a b = omega arith

chosen_within : (b : Bool) (n m : ℕ) → n ≤ m → (if b then n else 0) ≤ m
chosen_within true n m h = h
chosen_within false n m h = omega arith

skipped_within : (b : Bool) (n m : ℕ) → n ≤ m → (if b then 0 else n) ≤ m
skipped_within true n m h = omega arith
skipped_within false n m h = h

-- what an event adds to each number is at most one more than its load
came_within : (n : ℕ) (k : Kind) (e : Event) → came_by n k e ≤ suc (load e)
came_within n k (E.Put c m port tag val (Accepted number land)) = omega arith
came_within n k (E.Put c m port tag val (Refused cause)) = omega arith
came_within n k (E.Give l i number land) = one_if_within (nat_eq l.to n)
came_within n k (E.Form m number parts) = let h = one_if_within (not (is_hold_join k)) in omega (arith, h)
came_within n k (E.End w m i number outs) = omega arith
came_within n k (E.Back w m i number outs) = omega arith
came_within n k (E.Split m i number outs) = omega arith
came_within n k (E.Shut m i Z.Won) = omega arith
came_within n k (E.Shut m i Z.Out) = omega arith
came_within n k (E.Shut m i Z.Lost) = omega arith
came_within n k (E.Shut m i Z.Failed) = omega arith
came_within n k e = omega arith

out_within : (n : ℕ) (k : Kind) (e : Event) → out_by n k e ≤ suc (load e)
out_within n k (E.Give l i number land) = one_if_within (nat_eq l.from n && is_single_push k)
out_within n k (E.Take l i) = one_if_within (nat_eq l.from n && is_single_push k)
out_within n k (E.Shut m i Z.Won) = omega arith
out_within n k (E.Shut m i Z.Out) = omega arith
out_within n k (E.Shut m i Z.Lost) = omega arith
out_within n k (E.Shut m i Z.Failed) = omega arith
out_within n k e = omega arith

landed_within : (land : Land) (n : ℕ) (e : Event) → landed_by land n e ≤ 1
landed_within land n (E.Put c m port tag val (Accepted number land')) = count_within land land'
landed_within land n (E.Put c m port tag val (Refused cause)) = omega arith
landed_within land n (E.Give l i number land') = chosen_within (nat_eq l.to n) (land_count land land') 1 (count_within land land')
landed_within land n e = omega arith

used_within : (k : Kind) (e : Event) → used_by k e ≤ suc (load e)
used_within k (E.End w m i number outs) = let h = one_if_within (not (is_input k || is_async k || is_continue k)) in omega (arith, h)
used_within k (E.Back w m i number outs) = omega arith
used_within k (E.Split m i number outs) = omega arith
used_within k (E.Form m number parts) = skipped_within (is_hold_join k) (length parts) (suc (length parts)) (omega arith)
used_within k e = omega arith

dropped_within : (e : Event) → dropped_by e ≤ suc (load e)
dropped_within (E.Cancel c m dropped) = omega arith
dropped_within (E.Shut m i Z.Lost) = omega arith
dropped_within (E.Shut m i Z.Won) = omega arith
dropped_within (E.Shut m i Z.Out) = omega arith
dropped_within (E.Shut m i Z.Failed) = omega arith
dropped_within e = omega arith

small_sum : (a b c : ℕ) → a < 1000 → b ≤ suc c → c < 1000 → a + b < 2 ^ 64
small_sum a b c ha hb hc = omega (arith, ha, hb, hc)

small_sums : (a b c d : ℕ) → a < 1000 → b ≤ 1 → c ≤ suc d → d < 1000 → a + b + c < 2 ^ 64
small_sums a b c d ha hb hc hd = omega (arith, ha, hb, hc, hd)

pub stays_small :
    (n : ℕ) (k : Kind) (t : Tally) (e : Event) → IsLow t → load e < 1000 →
    IsSmall (tally_add n k (without_kept t) e)
stays_small n k t e low small = record {
  came = small_sum t.came (came_by n k e) (load e) low.came (came_within n k e) small;
  out = small_sum t.out (out_by n k e) (load e) low.out (out_within n k e) small;
  eaten = small_sums t.eaten (landed_by L.Eaten n e) (used_by k e) (load e) low.eaten (landed_within L.Eaten n e) (used_within k e) small;
  lost = small_sums t.lost (landed_by L.Lost n e) (dropped_by e) (load e) low.lost (landed_within L.Lost n e) (dropped_within e) small;
  over = small_sum t.over (landed_by L.Over n e) 0 low.over (landed_within L.Over n e) (omega arith);
}
