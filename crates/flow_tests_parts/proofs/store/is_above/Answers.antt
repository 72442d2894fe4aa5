use Rattle.std.proofs.Common.{◌≡◌, ◌<◌, ◌≤◌, ℕ, zero, suc, List, [], ◌∷◌, None, length, sym, arith, lt-ltb, le-ltb}
use Rattle.std.specs.Prelude.{slice_get}
use Rattle.flow_item.specs.declared.item.Item.{Item}
use Rattle.flow_machine.specs.Readers.{own_items}
use Rattle.flow_tests_parts.proofs.Playing.{new-more, new-fails}
use Rattle.flow_tests_parts.proofs.store.is_above.Goals as goal

item-missing : (xs : List Item) (k : ℕ) → k < length xs → None ≡ slice_get xs k → ⊥
item-missing [] k short h = omega (arith, short)
item-missing (x ∷ xs) zero short h = cc
item-missing (x ∷ xs) (suc k) short h = item-missing xs k (omega (arith, short)) h

pub returns-then-item-number : goal.returns-then-item-number
returns-then-item-number g c =
    let i = c.in-Some.item.now in
    let high : c.args.number ≤ i.id.no = omega arith in
    new-fails c.args.number (own_items (g.S.Store.part c.args.store.now)) c.loop-k.k i _ (sym c.in-Some.ensures) (le-ltb i.id.no c.args.number high) c.loop-k.invariant

pub unreachable-requires : goal.unreachable-requires
unreachable-requires g c =
    let xs = own_items (g.S.Store.part c.args.store.now) in
    let short : c.loop-k.k < length xs = omega arith in
    item-missing xs c.loop-k.k short c.in-None.ensures

pub loop-k-preserved : goal.loop-k-preserved
loop-k-preserved g c =
    let i = c.in-Some.item.now in
    let low : i.id.no < c.args.number = omega arith in
    new-more c.args.number (own_items (g.S.Store.part c.args.store.now)) c.loop-k.k i _ (sym c.in-Some.ensures) (lt-ltb i.id.no c.args.number low) c.loop-k.invariant
