-- Messages as pairs, one after another.
use Rattle.std.proofs.Common.{◌≡◌, ℕ, zero, suc, ◌+◌, ◌<◌, ◌≤◌, Some, None, List, [], ◌∷◌, ◌++◌, length, take, refl, sym, ap, ◌∙◌, arith, append_assoc}
use Rattle.std.proofs.lemmas.List.{take_more, take_all, append-nil}
use Rattle.std.proofs.lemmas.Option.{get_or_from_slice_get}
use Rattle.std.specs.Prelude.{slice_get, map}
use Rattle.flow_item.specs.declared.item.Msg.{Msg}
use Rattle.flow_item.specs.Pairs.{Pair, pair_of_msg}

msg-below : (xs : List Msg) (i : ℕ) (x : Msg) → slice_get xs i ≡ Some x → i < length xs
msg-below [] i x h = cc
msg-below (y ∷ ys) zero x h = omega arith
msg-below (y ∷ ys) (suc i) x h = let less : i < length ys = msg-below ys i x h in omega (arith, less)

pub msg-none : (xs : List Msg) (i : ℕ) → None ≡ slice_get xs i → i < length xs → ⊥
msg-none [] i h less = absurd (omega (arith, less))
msg-none (y ∷ ys) zero h less = cc
msg-none (y ∷ ys) (suc i) h less = msg-none ys i h (omega (arith, less))

pairs-join : (xs : List Msg) (m : Msg) → map pair_of_msg (xs ++ m ∷ []) ≡ map pair_of_msg xs ++ pair_of_msg m ∷ []
pairs-join [] m = refl
pairs-join (x ∷ xs) m = ap (λ (l : List Pair). pair_of_msg x ∷ l) (pairs-join xs m)

pub messages-first : (outs : List Msg) (initial : List Pair) → initial ≡ initial ++ map pair_of_msg (take 0 outs)
messages-first outs initial = sym (append-nil initial)

pub messages-on : (outs : List Msg) (i : ℕ) (m : Msg) (initial now next : List Pair) → Some m ≡ slice_get outs i → next ≡ now ++ pair_of_msg m ∷ [] → now ≡ initial ++ map pair_of_msg (take i outs) → next ≡ initial ++ map pair_of_msg (take (i + 1) outs)
messages-on outs i m initial now next at grown inv =
    let more : take (i + 1) outs ≡ take i outs ++ m ∷ [] = take_more outs i m (msg-below outs i m (sym at)) ∙ ap (λ (x : Msg). take i outs ++ x ∷ []) (get_or_from_slice_get outs i m m (sym at)) in
    grown
    ∙ ap (λ (l : List Pair). l ++ pair_of_msg m ∷ []) inv
    ∙ append_assoc initial (map pair_of_msg (take i outs)) (pair_of_msg m ∷ [])
    ∙ ap (λ (l : List Pair). initial ++ l) (sym (pairs-join (take i outs) m) ∙ sym (ap (map pair_of_msg) more))

pub messages-end : (outs : List Msg) (i : ℕ) (initial now : List Pair) → length outs ≤ i → now ≡ initial ++ map pair_of_msg (take i outs) → now ≡ initial ++ map pair_of_msg outs
messages-end outs i initial now most inv = inv ∙ ap (λ (l : List Msg). initial ++ map pair_of_msg l) (take_all i outs most)
