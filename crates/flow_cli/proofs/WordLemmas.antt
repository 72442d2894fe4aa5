-- What clap's clauses give of a command line.
use Rattle.std.proofs.Common.{◌≡◌, ◌∙◌, if◌then◌else◌, ◌≤◌, ◌<◌, ◌^◌, ℕ, Bool, true, false, cond, List, [], ◌∷◌, map, length, Option, Some, None, option_map, codes, refl, sym, ap, arith, inl, inr}
use Rattle.std.specs.Prelude.{slice_get}
use Rattle.std.specs.Borrow.{Bor}
use Rattle.std.specs.Option.{option_map_or}
use Rattle.std.specs.Str.{bytes_eq}
use Rattle.std.specs.Str.Parse.{IsNumeral, digits_value, without_leading_plus}
use Rattle.clap.specs.ValueTests.{accepts}
use Rattle.clap.specs.Values.{Accepts, kind_of}
use Rattle.clap.specs.Words.{App, HasMatchesOf, Row, Text, app_of, fault_of, first_of, first_value, found_of, is_simple, is_simple_and_free, matches_of, rows_of, takes}
use Rattle.clap.specs.declared.error.Error.{Error}
use Rattle.clap.specs.declared.error.kind.ErrorKind.TheVariants.{OutOfMemory}
use Rattle.clap.specs.declared.builder.value_parser.ValueParser.TheVariants as P
use Rattle.clap.specs.declared.parser.matches.Found.{Found}
use Rattle.clap.proofs.OnLiterals.{clap_on_literals}
use Rattle.clap.proofs.ValueTestLemmas.{Accepts-accepts, accepts-Accepts}
use Rattle.clap.proofs.WalkLemmas.{first_value-rows}
use Rattle.clap.specs.declared.builder.command.Command.{Command}
use Rattle.clap.specs.declared.parser.matches.ArgMatches.{ArgMatches}
use Rattle.flow_cli.proofs.Faultless.{faultless, faultless_gen, faultless_check}
use Rattle.flow_cli.specs.Words.{begins_with, is_line_of, is_set, items_in, items_of, options_in, plain_app, plain_options, count_in, count_of, generating_in, gen_app, gen_options, check_app, check_asked}

-- ---- the number of items

pub told : (text : List ℕ) (n : ℕ) → (IsNumeral 10 (without_leading_plus text) × (digits_value 10 (without_leading_plus text) < 2 ^ 64)) × (n ≡ digits_value 10 (without_leading_plus text)) → n ≤ 2000000 → n ≡ items_of text
told text n h low = go (accepts false (P.Unsigned 0 2000000) text) (Accepts-accepts false (P.Unsigned 0 2000000) text (h.0.0, h.0.1, omega (arith, h.1), omega (arith, h.1)))
  where
    go : (b : Bool) → b ≡ true → n ≡ cond b (digits_value 10 (without_leading_plus text)) 1000000
    go true e = h.1
    go false e = cc

untold : (text : List ℕ) → (Accepts false (P.Unsigned 0 2000000) text → ⊥) → 1000000 ≡ items_of text
untold text never = go (accepts false (P.Unsigned 0 2000000) text) refl
  where
    go : (b : Bool) → accepts false (P.Unsigned 0 2000000) text ≡ b → 1000000 ≡ cond b (digits_value 10 (without_leading_plus text)) 1000000
    go true e = absurd (never (accepts-Accepts false (P.Unsigned 0 2000000) text e))
    go false e = refl

pub no-number : (text : List ℕ) → (IsNumeral 10 (without_leading_plus text) × (digits_value 10 (without_leading_plus text) < 2 ^ 64) → ⊥) → 1000000 ≡ items_of text
no-number text never = untold text (λ a. never (a.0, a.1))

-- ---- values by their rows

pub seen : (f : Found) (id : Text) (o : Option (Bor Text)) (v : Option Text) → option_map (λ s. s.now) o ≡ first_value f id → option_map (λ s. s.now) o ≡ v → first_of id (rows_of f) ≡ v
seen f id o v h e = sym (first_value-rows f id) ∙ (sym h ∙ e)

pub is-set : (f : Found) (id : Text) (o : Option (Bor Text)) (v : Option Text) (b : Bool) → option_map (λ s. s.now) o ≡ first_value f id → option_map (λ s. s.now) o ≡ v → b ≡ option_map_or (λ text. bytes_eq text (codes "true")) v false → b ≡ is_set id (rows_of f)
is-set f id o v b h e is = is ∙ ap (λ (u : Option Text). option_map_or (λ text. bytes_eq text (codes "true")) u false) (sym (seen f id o v h e))

pub items-in : (f : Found) (o : Option (Bor Text)) (v : Option Text) (n : ℕ) → option_map (λ s. s.now) o ≡ first_value f (codes "items") → option_map (λ s. s.now) o ≡ v → n ≡ option_map_or items_of v 1000000 → n ≡ items_in (rows_of f)
items-in f o v n h e is = is ∙ ap (λ (u : Option Text). option_map_or items_of u 1000000) (sym (seen f (codes "items") o v h e))

-- ---- the number of the generated document

pub counted : (text : List ℕ) (n : ℕ) → (IsNumeral 10 (without_leading_plus text) × (digits_value 10 (without_leading_plus text) < 2 ^ 32)) × (n ≡ digits_value 10 (without_leading_plus text)) → 1 ≤ n → n ≤ 90000 → n ≡ count_of text
counted text n h some low = go (accepts false (P.Unsigned 1 90000) text) (Accepts-accepts false (P.Unsigned 1 90000) text (h.0.0, omega (arith, h.0.1), omega (arith, h.1), omega (arith, h.1)))
  where
    go : (b : Bool) → b ≡ true → n ≡ cond b (digits_value 10 (without_leading_plus text)) 1
    go true e = h.1
    go false e = cc

pub uncounted : (text : List ℕ) → (Accepts false (P.Unsigned 1 90000) text → ⊥) → 1 ≡ count_of text
uncounted text never = go (accepts false (P.Unsigned 1 90000) text) refl
  where
    go : (b : Bool) → accepts false (P.Unsigned 1 90000) text ≡ b → 1 ≡ cond b (digits_value 10 (without_leading_plus text)) 1
    go true e = absurd (never (accepts-Accepts false (P.Unsigned 1 90000) text e))
    go false e = refl

pub no-count : (text : List ℕ) → (IsNumeral 10 (without_leading_plus text) × (digits_value 10 (without_leading_plus text) < 2 ^ 32) → ⊥) → 1 ≡ count_of text
no-count text never = uncounted text (λ a. never (a.0, omega (arith, a.3)))

pub count-in : (f : Found) (o : Option (Bor Text)) (v : Option Text) (n : ℕ) → option_map (λ s. s.now) o ≡ first_value f (codes "count") → option_map (λ s. s.now) o ≡ v → n ≡ option_map_or count_of v 1 → n ≡ count_in (rows_of f)
count-in f o v n h e is = is ∙ ap (λ (u : Option Text). option_map_or count_of u 1) (sym (seen f (codes "count") o v h e))

-- ---- lines of a command

pub begins : {X : Type 0} (text : X → Text) (ws : List X) (w : X) (name : Text) (b : Bool) → slice_get ws 0 ≡ Some w → b ≡ bytes_eq (text w) name → b ≡ begins_with name (map text ws)
begins text [] w name b e is = cc
begins text (x ∷ xs) w name b e is = let same : x ≡ w = cc in is ∙ ap (λ y. bytes_eq (text y) name) (sym same)

module _ {O : Type 0} (app : App) (free : is_simple_and_free app ≡ true) (simple : is_simple app ≡ true)
    (faultless_of : (words : List Text) → fault_of app words ≡ [] → takes app words ≡ true) (read : List Row → O) (words : List Text) (named : begins_with app.top.name words ≡ true) where
  abbrev asked : Option O
  asked = if is_line_of app words then Some (read (matches_of app words)) else None

  line-is : (b : Bool) → takes app words ≡ b → is_line_of app words ≡ b
  line-is b k = rw (named, k) refl

  -- words that clap takes
  pub accepted_of : (c : Command) (m : ArgMatches) → app_of c ≡ app → (is_simple_and_free (app_of c) ≡ true → fault_of (app_of c) words ≡ []) → HasMatchesOf (app_of c) words m → Some (read (rows_of (found_of m))) ≡ asked
  accepted_of c m same faults matches =
      let none : fault_of app words ≡ [] = sym (ap (λ (b : App). fault_of b words) same) ∙ faults (ap is_simple_and_free same ∙ free) in
      let line : is_line_of app words ≡ true = line-is true (faultless_of words none) in
      let rows : rows_of (found_of m) ≡ matches_of app words = (matches (ap is_simple same ∙ simple)).0 ∙ ap (λ (b : App). matches_of b words) same in
      rw line (ap (λ (r : List Row). Some (read r)) rows)

  -- words that clap refuses
  pub refused_of : (c : Command) (e : Error) → app_of c ≡ app → (takes (app_of c) words ≡ true → kind_of e ≡ OutOfMemory) → (kind_of e ≡ OutOfMemory → ⊥) → None ≡ asked
  refused_of c e same passes never = by_taken (takes app words) refl
    where
      by_taken : (b : Bool) → takes app words ≡ b → None ≡ asked
      by_taken true is = absurd (never (passes (ap (λ (b : App). takes b words) same ∙ is)))
      by_taken false is = rw (line-is false is) refl

-- ---- the three commands

is_plain : is_simple_and_free plain_app ≡ true
unfolding clap_on_literals
is_plain = refl

is_matched : is_simple plain_app ≡ true
unfolding clap_on_literals
is_matched = refl

pub accepted : (words : List Text) (c : Command) (m : ArgMatches) → begins_with (codes "plain") words ≡ true → app_of c ≡ plain_app → (is_simple_and_free (app_of c) ≡ true → fault_of (app_of c) words ≡ []) → HasMatchesOf (app_of c) words m → Some (options_in (rows_of (found_of m))) ≡ plain_options words
accepted words c m named = accepted_of plain_app is_plain is_matched faultless options_in words named c m

pub refused : (words : List Text) (c : Command) (e : Error) → begins_with (codes "plain") words ≡ true → app_of c ≡ plain_app → (takes (app_of c) words ≡ true → kind_of e ≡ OutOfMemory) → (kind_of e ≡ OutOfMemory → ⊥) → None ≡ plain_options words
refused words c e named = refused_of plain_app is_plain is_matched faultless options_in words named c e

is_gen : is_simple_and_free gen_app ≡ true
unfolding clap_on_literals
is_gen = refl

is_gen_matched : is_simple gen_app ≡ true
unfolding clap_on_literals
is_gen_matched = refl

pub accepted_gen : (words : List Text) (c : Command) (m : ArgMatches) → begins_with (codes "gen") words ≡ true → app_of c ≡ gen_app → (is_simple_and_free (app_of c) ≡ true → fault_of (app_of c) words ≡ []) → HasMatchesOf (app_of c) words m → Some (generating_in (rows_of (found_of m))) ≡ gen_options words
accepted_gen words c m named = accepted_of gen_app is_gen is_gen_matched faultless_gen generating_in words named c m

pub refused_gen : (words : List Text) (c : Command) (e : Error) → begins_with (codes "gen") words ≡ true → app_of c ≡ gen_app → (takes (app_of c) words ≡ true → kind_of e ≡ OutOfMemory) → (kind_of e ≡ OutOfMemory → ⊥) → None ≡ gen_options words
refused_gen words c e named = refused_of gen_app is_gen is_gen_matched faultless_gen generating_in words named c e

is_check : is_simple_and_free check_app ≡ true
unfolding clap_on_literals
is_check = refl

is_check_matched : is_simple check_app ≡ true
unfolding clap_on_literals
is_check_matched = refl

pub accepted_check : (words : List Text) (c : Command) (m : ArgMatches) → begins_with (codes "check") words ≡ true → app_of c ≡ check_app → (is_simple_and_free (app_of c) ≡ true → fault_of (app_of c) words ≡ []) → HasMatchesOf (app_of c) words m → Some tt ≡ check_asked words
accepted_check words c m named = accepted_of check_app is_check is_check_matched faultless_check (λ rows. tt) words named c m

pub refused_check : (words : List Text) (c : Command) (e : Error) → begins_with (codes "check") words ≡ true → app_of c ≡ check_app → (takes (app_of c) words ≡ true → kind_of e ≡ OutOfMemory) → (kind_of e ≡ OutOfMemory → ⊥) → None ≡ check_asked words
refused_check words c e named = refused_of check_app is_check is_check_matched faultless_check (λ rows. tt) words named c e
