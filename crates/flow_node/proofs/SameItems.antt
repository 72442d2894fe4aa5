-- Each value and item is the same as itself.
use Rattle.std.proofs.Common.{◌≡◌, ℕ, true, eqb, List, [], ◌∷◌, refl, eq-eqb}
use Rattle.std.specs.Prelude.{ℤ, pos, negsuc}
use mathlib.Core.Former as former
use Rattle.flow_item.specs.declared.val.Val.{Val, Row_of-Val}
use Rattle.flow_item.specs.declared.val.Val.TheBlock.{end_of-Val, more_of-Val}
use Rattle.flow_item.specs.declared.val.Val.TheVariants as V
use Rattle.flow_item.specs.declared.item.Item.{Item}
use Rattle.flow_item.specs.Values.{same_int, same_text, same_val, same_row, same_item}
use Rattle.flow_item.proofs.Tests.{both_true}

same-number : (n : ℕ) → eqb n n ≡ true
same-number n = eq-eqb n n refl

int-same : (a : ℤ) → same_int a a ≡ true
int-same (pos n) = same-number n
int-same (negsuc n) = same-number n

text-same : (s : List ℕ) → same_text s s ≡ true
text-same [] = refl
text-same (a ∷ s) = both_true (same-number a) (text-same s)

mutual
  val-same : (v : Val) → same_val v v ≡ true
  val-same (V.Int a) = int-same a
  val-same (V.Text s) = text-same s
  val-same (V.List' n xs) = row-same xs

  row-same : {n : former.Count} (xs : Row_of-Val n) → same_row xs xs ≡ true
  row-same end_of-Val = refl
  row-same (more_of-Val x xs) = both_true (val-same x) (row-same xs)

pub item-same : (i : Item) → same_item i i ≡ true
item-same i = both_true (both_true (both_true (same-number i.id.node) (same-number i.id.no)) (same-number i.tag)) (val-same i.val)
