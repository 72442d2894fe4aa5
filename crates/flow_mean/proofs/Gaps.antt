-- The tags from 0 on without a gap, pair by pair.
use Rattle.std.proofs.Common.{◌≡◌, ℕ, suc, ◌+◌, ◌≤◌, ◌<◌, Bool, true, false, cond, eqb, Some, [], ◌∷◌, ◌++◌, length, get_or, take, drop, refl, sym, ap, ◌∙◌, arith, eq-eqb, append_assoc}
use Rattle.std.proofs.lemmas.Bool.{eqb-true}
use Rattle.std.proofs.lemmas.List.{take_more, take_all, drop_all, append-nil}
use Rattle.std.proofs.lemmas.Option.{slice_get_read}
use Rattle.std.specs.Prelude.{slice_get}
use Rattle.flow_item.specs.Pairs.{Pair}
use Rattle.flow_mean.specs.Maps.{TagMap, run_from, past_run}
use Rattle.flow_mean.proofs.Least.{drop-at}

module _ (row : TagMap) (at : ℕ) (p : Pair) (less : at < length row) (is : p ≡ get_or row at p) where
  there : slice_get row at ≡ Some p
  there = slice_get_read row (length row) at p refl less is

  more : take (at + 1) row ≡ take at row ++ p ∷ []
  more = take_more row at p less ∙ ap (λ q. take at row ++ q ∷ []) (sym is)

  plus : at + 1 ≡ suc at
  plus = omega arith

  on : p.0 ≡ at → run_from at (drop at row) ≡ p ∷ run_from (at + 1) (drop (at + 1) row)
  on e =
      ap (run_from at) (drop-at row at p there)
      ∙ ap (λ b. cond b (p ∷ run_from (suc at) (drop (at + 1) row)) []) (eq-eqb p.0 at e)
      ∙ ap (λ n. p ∷ run_from n (drop (at + 1) row)) (sym plus)

  pub run-on : p.0 ≡ at → take at row ++ run_from at (drop at row) ≡ run_from 0 row → take (at + 1) row ++ run_from (at + 1) (drop (at + 1) row) ≡ run_from 0 row
  run-on e h =
      ap (λ l. l ++ run_from (at + 1) (drop (at + 1) row)) more
      ∙ append_assoc (take at row) (p ∷ []) (run_from (at + 1) (drop (at + 1) row))
      ∙ ap (λ l. take at row ++ l) (sym (on e)) ∙ h

  pub past-on : p.0 ≡ at → past_run at (drop at row) ≡ past_run 0 row → past_run (at + 1) (drop (at + 1) row) ≡ past_run 0 row
  past-on e h =
      ap (λ n. past_run n (drop (at + 1) row)) plus
      ∙ sym (ap (past_run at) (drop-at row at p there) ∙ ap (λ b. cond b (past_run (suc at) (drop (at + 1) row)) (p ∷ drop (at + 1) row)) (eq-eqb p.0 at e))
      ∙ h

  ends : (p.0 ≡ at → ⊥) → eqb p.0 at ≡ false
  ends ne = by (eqb p.0 at) refl
    where
      by : (b : Bool) → eqb p.0 at ≡ b → b ≡ false
      by true e = absurd (ne (eqb-true p.0 at e))
      by false e = refl

  pub run-here : (p.0 ≡ at → ⊥) → take at row ++ run_from at (drop at row) ≡ run_from 0 row → run_from 0 row ≡ take at row
  run-here ne h =
      sym h
      ∙ ap (λ l. take at row ++ l) (ap (run_from at) (drop-at row at p there) ∙ ap (λ b. cond b (p ∷ run_from (suc at) (drop (at + 1) row)) []) (ends ne))
      ∙ append-nil (take at row)

  pub past-here : (p.0 ≡ at → ⊥) → past_run at (drop at row) ≡ past_run 0 row → past_run 0 row ≡ drop at row
  past-here ne h =
      sym h
      ∙ ap (past_run at) (drop-at row at p there) ∙ ap (λ b. cond b (past_run (suc at) (drop (at + 1) row)) (p ∷ drop (at + 1) row)) (ends ne)
      ∙ sym (drop-at row at p there)

-- where no pair is left
module _ (row : TagMap) (at : ℕ) (most : length row ≤ at) where
  pub run-end : take at row ++ run_from at (drop at row) ≡ run_from 0 row → run_from 0 row ≡ take at row
  run-end h = sym h ∙ ap (λ l. take at row ++ run_from at l) (drop_all at row most) ∙ append-nil (take at row)

  pub past-end : past_run at (drop at row) ≡ past_run 0 row → past_run 0 row ≡ drop at row
  past-end h = sym h ∙ ap (past_run at) (drop_all at row most) ∙ sym (drop_all at row most)

  pub run-all : take at row ++ run_from at (drop at row) ≡ run_from 0 row → run_from 0 row ≡ take (length row) row
  run-all h = run-end h ∙ take_all at row most ∙ sym (take_all (length row) row (omega arith))

  pub past-all : past_run at (drop at row) ≡ past_run 0 row → past_run 0 row ≡ drop (length row) row
  past-all h = past-end h ∙ drop_all at row most ∙ sym (drop_all (length row) row (omega arith))
