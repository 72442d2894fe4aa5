-- The least raised flag, by blocks.
use Rattle.std.proofs.Common.{◌≡◌, ℕ, zero, suc, ◌+◌, ◌*◌, ◌<◌, ◌≤◌, ltb, Bool, true, false, Some, None, List, [], ◌∷◌, length, replicate, refl, sym, ap, ◌∙◌, arith}
use Rattle.std.specs.Prelude.{slice_get}
use Rattle.std.proofs.lemmas.Option.{slice_get_within}
use Rattle.std.proofs.lemmas.Bool.{ltb-true}
use Rattle.std.proofs.lemmas.Bool.Decides.{nat_tests}
use Rattle.flow_nodes.specs.DueSets.{least_of, IsClear, IsFirst, IsMarked}

pub least-first : (flags : List Bool) (n at : ℕ) → slice_get flags at ≡ Some true → IsClear flags 0 at → least_of n flags ≡ Some (n + at)
least-first [] n at h clear = cc
least-first (b ∷ flags) n zero h clear = let up : b ≡ true = cc in let same : n ≡ n + 0 = omega arith in rw up (ap Some same)
least-first (true ∷ flags) n (suc at) h clear = absurd (clear 0 (omega arith) (omega arith) refl)
least-first (false ∷ flags) n (suc at) h clear =
    let same : suc n + at ≡ n + suc at = omega arith in
    least-first flags (suc n) at h (λ k low high up. clear (suc k) (omega arith) (omega arith) up) ∙ ap Some same

pub least-none : (flags : List Bool) (n : ℕ) → ((k : ℕ) → slice_get flags k ≡ Some true → ⊥) → least_of n flags ≡ None
least-none [] n clear = refl
least-none (true ∷ flags) n clear = absurd (clear 0 refl)
least-none (false ∷ flags) n clear = least-none flags (suc n) (λ k up. clear (suc k) up)

pub none-raised : (n k : ℕ) → slice_get (replicate n false) k ≡ Some true → ⊥
none-raised zero k h = cc
none-raised (suc n) zero h = cc
none-raised (suc n) (suc k) h = none-raised n k h

-- no flag is raised past the end
pub clear-past : (flags : List Bool) (from end to : ℕ) → IsClear flags from end → (end < to → length flags ≤ end) → IsClear flags from to
clear-past flags from end to clear past k low high up =
    let short = slice_get_within flags k true up in
    let near : k < end = by_end (ltb end to) refl short in
    clear k low near up
  where
    by_end : (b : Bool) → ltb end to ≡ b → k < length flags → k < end
    by_end true h short = let below = past (ltb-true _ _ h) in omega arith
    by_end false h short = let above : to ≤ end = grind (arith, nat_tests) in omega arith

pub clear-more : (flags : List Bool) (b n : ℕ) → IsClear flags 0 (32 * b) → IsClear flags (32 * b) (32 * b + 32) → n ≡ 32 * b + 32 → IsClear flags 0 n
clear-more flags b n below here is k low high up = by_block (ltb k (32 * b)) refl
  where
    by_block : (d : Bool) → ltb k (32 * b) ≡ d → ⊥
    by_block true h = below k low (ltb-true _ _ h) up
    by_block false h = let above : 32 * b ≤ k = grind (arith, nat_tests) in here k above (omega arith) up

pub found-least : (flags : List Bool) (b at : ℕ) → IsClear flags 0 (32 * b) → IsFirst flags (32 * b) (32 * b + 32) at → Some at ≡ least_of 0 flags
found-least flags b at below first =
    let same : 0 + at ≡ at = omega arith in
    sym (least-first flags 0 at first.raised clear ∙ ap Some same)
  where
    clear : IsClear flags 0 at
    clear k low high up = by_block (ltb k (32 * b)) refl
      where
        by_block : (d : Bool) → ltb k (32 * b) ≡ d → ⊥
        by_block true h = below k low (ltb-true _ _ h) up
        by_block false h = let above : 32 * b ≤ k = grind (arith, nat_tests) in first.before k above high up

pub none-least : (flags marks : List Bool) (n : ℕ) → IsMarked flags marks → length marks ≤ n → IsClear flags 0 (32 * n) → None ≡ least_of 0 flags
none-least flags marks n marked past clear = sym (least-none flags 0 (λ k up.
    let short = slice_get_within flags k true up in
    let covers = marked.covers in
    clear k (omega arith) (omega arith) up))
