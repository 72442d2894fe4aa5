-- Equal texts and lists of values.
use Rattle.std.proofs.Common.{◌≡◌, ℕ, zero, suc, ◌≤◌, Bool, true, false, cond, ◌&&◌, eqb, Some, None, List, [], ◌∷◌, length, drop, refl, sym, ap, ◌∙◌, arith}
use Rattle.std.specs.Prelude.{nat_eq, slice_get}
use Rattle.std.specs.List.{find}
use Rattle.flow_item.specs.declared.item.Item.{Item}
use Rattle.flow_machine.specs.State.{Part, body_part}
use Rattle.flow_machine.specs.Readers.{tickets_of}
use Rattle.flow_node.specs.NodeViews.{ticket_items}
use Rattle.std.proofs.lemmas.Bool.{eqb-true}
use Rattle.std.specs.Str.{bytes_eq}
use mathlib.Core.Former as former
use Rattle.flow_item.specs.declared.val.Val.{Val, Row_of-Val, items-the_row-Val, items_hidden-the_row-Val-0}
use Rattle.flow_item.specs.declared.val.Val.TheBlock.{end_of-Val, more_of-Val, hidden-the_row-Val-0}
use Rattle.flow_item.specs.declared.val.Val.TheVariants as V
use Rattle.flow_item.specs.Values.{same_text, same_val, same_row}
use Rattle.flow_book.specs.Equal.{same_list}

pub text-same : (s t : List ℕ) → bytes_eq s t ≡ same_text s t
text-same [] [] = refl
text-same (a ∷ s) (b ∷ t) = ap (λ r. nat_eq a b && r) (text-same s t)
text-same [] (b ∷ t) = refl
text-same (a ∷ s) [] = refl

row-same : {n m : former.Count} (xs : Row_of-Val n) (ys : Row_of-Val m) → same_row xs ys ≡ same_list (items-the_row-Val n xs) (items-the_row-Val m ys)
row-same end_of-Val end_of-Val = refl
row-same (more_of-Val x xs) (more_of-Val y ys) = ap (λ b. same_val x y && b) (row-same xs ys)
row-same end_of-Val (more_of-Val y ys) = refl
row-same (more_of-Val x xs) end_of-Val = refl

pub list-same : (xs ys : List Val) → same_val (V.List xs) (V.List ys) ≡ same_list xs ys
list-same xs ys = row-same (hidden-the_row-Val-0 xs) (hidden-the_row-Val-0 ys) ∙ (λ i. same_list (items_hidden-the_row-Val-0 xs i) (items_hidden-the_row-Val-0 ys i))

and-false : (b : Bool) → (b && false) ≡ false
and-false true = refl
and-false false = refl

uneven-lists : (xs ys : List Val) → (length xs ≡ length ys → ⊥) → same_list xs ys ≡ false
uneven-lists [] [] h = absurd (h refl)
uneven-lists (x ∷ xs) (y ∷ ys) h = ap (λ b. same_val x y && b) (uneven-lists xs ys (λ e. h (ap suc e))) ∙ and-false (same_val x y)
uneven-lists [] (y ∷ ys) h = refl
uneven-lists (x ∷ xs) [] h = refl

pub uneven : (xs ys : List Val) (m n : ℕ) → m ≡ length xs → n ≡ length ys → (m ≡ n → ⊥) → false ≡ same_list xs ys
uneven xs ys m n p q h = sym (uneven-lists xs ys (λ e. h (p ∙ (e ∙ sym q))))

pub not-eqb : (a b : ℕ) → (a ≡ b → ⊥) → eqb a b ≡ false
not-eqb a b h = by (eqb a b) refl
  where
    by : (c : Bool) → eqb a b ≡ c → c ≡ false
    by true p = absurd (h (eqb-true a b p))
    by false p = refl

-- ---- place by place

pub both-here : (xs ys : List Val) (k : ℕ) (x y : Val) → slice_get xs k ≡ Some x → slice_get ys k ≡ Some y → same_list (drop k xs) (drop k ys) ≡ (same_val x y && same_list (drop (suc k) xs) (drop (suc k) ys))
both-here [] ys k x y h g = cc
both-here (a ∷ xs) [] k x y h g = cc
both-here (a ∷ xs) (b ∷ ys) zero x y h g = let p : a ≡ x = cc in let q : b ≡ y = cc in (λ i. same_val (p i) (q i) && same_list xs ys)
both-here (a ∷ xs) (b ∷ ys) (suc k) x y h g = both-here xs ys k x y h g

pub drop-all : {X : Type 0} (xs : List X) (k : ℕ) → length xs ≤ k → drop k xs ≡ []
drop-all [] zero h = refl
drop-all [] (suc k) h = refl
drop-all (x ∷ xs) zero h = absurd (omega (arith, h))
drop-all (x ∷ xs) (suc k) h = drop-all xs k (omega (arith, h))

pub ticket-items : (p : Part) → ticket_items p ≡ tickets_of p
ticket-items (body_part w) = refl
ticket-items p = refl

pub find-at : (p : Item → Bool) (xs : List Item) (k : ℕ) (x : Item) → Some x ≡ slice_get xs k → p x ≡ true → find p (drop k xs) ≡ Some x
find-at p [] k x h t = cc
find-at p (a ∷ xs) zero x h t = let same : x ≡ a = cc in ap (λ b. cond b (Some a) (find p xs)) (ap p (sym same) ∙ t) ∙ ap (λ (z : Item). Some z) (sym same)
find-at p (a ∷ xs) (suc k) x h t = find-at p xs k x h t

pub find-next : (p : Item → Bool) (xs : List Item) (k : ℕ) (x : Item) → Some x ≡ slice_get xs k → p x ≡ false → find p (drop k xs) ≡ find p (drop (suc k) xs)
find-next p [] k x h t = cc
find-next p (a ∷ xs) zero x h t = let same : x ≡ a = cc in ap (λ b. cond b (Some a) (find p xs)) (ap p (sym same) ∙ t)
find-next p (a ∷ xs) (suc k) x h t = find-next p xs k x h t

pub no-more : {X : Type 0} (xs : List X) (k : ℕ) → None ≡ slice_get xs k → drop k xs ≡ []
no-more [] zero h = refl
no-more [] (suc k) h = refl
no-more (x ∷ xs) zero h = cc
no-more (x ∷ xs) (suc k) h = no-more xs k h
