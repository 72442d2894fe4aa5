-- Journals within the limits of a run.
use Rattle.std.proofs.Common.{◌≡◌, ℕ, ◌+◌, ◌^◌, ◌≤◌, min, ltb, ◌<◌, Bool, true, false, ◌||◌, ◌&&◌, nat_eq, nat_lt, nat_le, lt-ltb, eq-eqb, List, [], ◌∷◌, ◌++◌, length, refl, sym, ◌∙◌, subst, arith}
use Rattle.std.proofs.lemmas.List.{length-append}
use Rattle.std.proofs.lemmas.Bool.{ltb-true}
use Rattle.std.proofs.lemmas.Bool.Decides.{nat_tests}
use Rattle.flow_item.specs.declared.event.Event.{Event}
use Rattle.flow_item.specs.Events.{births_of, births}
use Rattle.flow_laws.specs.Moments.{IsWithinLimits}
use Rattle.flow_work.specs.Runs.{Run, with_event}
use Rattle.flow_work.specs.Refusals.{meets_limit}

-- the run has room for an event with so many births
pub record HasRoom (r : Run) (n : ℕ) : Type 0 where
  pub more : length r.journal ≡ r.events → ⊥
  pub room : 0 < n → births r.journal < r.items
  pub few : births r.journal + n ≤ 2 ^ 63

-- where no limit is met there is room
pub below-limit : (r : Run) (n : ℕ) → meets_limit r n ≡ false → nat_lt (2 ^ 63) (births r.journal + n) ≡ false → HasRoom r n
below-limit r n h small = record { few = grind (arith, nat_tests); more = λ same. or_right (nat_lt 0 n && nat_le r.items (births r.journal)) (nat_eq (length r.journal) r.events) h (eq-eqb _ _ same); room = λ some. not_full (nat_le r.items (births r.journal)) refl (lt-ltb 0 n some) }
  where
    or_right : (a b : Bool) → (a || b) ≡ false → b ≡ true → ⊥
    or_right true b h g = cc
    or_right false b h g = cc

    not_full : (b : Bool) → nat_le r.items (births r.journal) ≡ b → nat_lt 0 n ≡ true → births r.journal < r.items
    not_full true g some = let never : true ≡ false = rw (some, g) at h in cc
    not_full false g some = grind (arith, nat_tests)

-- a place of a list with one more member is a place of the list, or the last
split-last : {X P : Type 0} (xs : List X) (x : X) (before : List X) (y : X) (later : List X) → xs ++ x ∷ [] ≡ before ++ y ∷ later → (before ≡ xs → y ≡ x → P) → ((rest : List X) → xs ≡ before ++ y ∷ rest → P) → P
split-last [] x [] y later h last early = last refl cc
split-last [] x (b ∷ []) y later h last early = let never : ⊥ = cc in absurd never
split-last [] x (b ∷ c ∷ bs) y later h last early = let never : ⊥ = cc in absurd never
split-last (z ∷ zs) x [] y later h last early = early zs cc
split-last (z ∷ zs) x (b ∷ bs) y later h last early =
    let tails : zs ++ x ∷ [] ≡ bs ++ y ∷ later = cc in
    let heads : z ≡ b = cc in
    split-last zs x bs y later tails (λ same end. let all : b ∷ bs ≡ z ∷ zs = cc in last all end) (λ rest same. early rest cc)

-- with one more event for which there is room
pub within-more : (r : Run) (e : Event) → IsWithinLimits r.items r.events r.journal → HasRoom r (births_of e) → IsWithinLimits r.items r.events (with_event r e).journal
within-more r e within has = record {
  few = let low = within.few in let differ = has.more in omega (arith, length-append r.journal (e ∷ []));
  room = λ before f later is some. split-last r.journal e before f later is
      (λ all last. subst (λ es. births es < r.items) (sym all) (has.room (subst (λ f. 0 < births_of f) last some)))
      (λ rest early. within.room before f rest early some);
}

-- before the first event
pub within-at-start : (items events : ℕ) → IsWithinLimits items events []
within-at-start items events = record { few = omega arith; room = λ before e later is some. absurd (never before e later is) }
  where
    never : (before : List Event) (e : Event) (later : List Event) → [] ≡ before ++ e ∷ later → ⊥
    never [] e later is = cc
    never (b ∷ bs) e later is = cc

pub not-less : (n k : ℕ) → ltb k n ≡ false → n ≤ k
not-less n k h = grind (arith, nat_tests)

-- a count that stands still at its type's end tells whether there are too many
pub over-seen : (b n made sum : ℕ) → made ≡ min b 18446744073709551615 → sum ≡ min (made + n) 18446744073709551615 → nat_lt 9223372036854775808 sum ≡ nat_lt (2 ^ 63) (b + n)
over-seen b n made sum made_is sum_is = by_tests (ltb 9223372036854775808 sum) refl (ltb 9223372036854775808 (b + n)) refl
  where
    by_tests : (p : Bool) → ltb 9223372036854775808 sum ≡ p → (q : Bool) → ltb 9223372036854775808 (b + n) ≡ q → ltb 9223372036854775808 sum ≡ ltb 9223372036854775808 (b + n)
    by_tests true h true g = h ∙ sym g
    by_tests false h false g = h ∙ sym g
    by_tests true h false g = let big : 9223372036854775808 < sum = ltb-true _ _ h in let low : b + n ≤ 9223372036854775808 = not-less (b + n) 9223372036854775808 g in absurd (omega arith)
    by_tests false h true g = let big : 9223372036854775808 < b + n = ltb-true _ _ g in let low : sum ≤ 9223372036854775808 = not-less sum 9223372036854775808 h in absurd (omega arith)
