-- What clap's clauses give of a line of `run`.
use Rattle.std.proofs.Common.{◌≡◌, ◌∙◌, ◌≤◌, ◌<◌, ◌^◌, ℕ, Bool, true, false, cond, List, [], map, Option, Some, None, option_map, codes, refl, sym, ap, arith}
use Rattle.std.specs.Borrow.{Bor}
use Rattle.std.specs.List.{list_all}
use Rattle.std.specs.Option.{option_map_or}
use Rattle.std.specs.Str.Parse.{IsNumeral, digits_value, without_leading_plus}
use Rattle.clap.specs.ValueTests.{accepts}
use Rattle.clap.specs.Values.{Accepts, kind_of}
use Rattle.clap.specs.Words.{HasMatchesOf, Row, Text, app_of, fault_of, first_of, first_value, found_of, is_simple, is_simple_and_free, rows_of, takes}
use Rattle.clap.specs.Simple.{built}
use Rattle.clap.specs.Takes as T
use Rattle.clap.specs.Faults as F
use Rattle.clap.specs.declared.builder.command.Command.{Command}
use Rattle.clap.specs.declared.builder.value_parser.ValueParser.TheVariants as P
use Rattle.clap.specs.declared.error.Error.{Error}
use Rattle.clap.specs.declared.error.kind.ErrorKind.TheVariants.{OutOfMemory}
use Rattle.clap.specs.declared.parser.matches.ArgMatches.{ArgMatches}
use Rattle.clap.specs.declared.parser.matches.Found.{Found}
use Rattle.clap.proofs.OnLiterals.{clap_on_literals}
use Rattle.clap.proofs.ValueTestLemmas.{Accepts-accepts, accepts-Accepts}
use Rattle.flow_cli.proofs.Faultless.{taken}
use Rattle.flow_cli.proofs.WordLemmas.{accepted_of, refused_of, seen}
use Rattle.flow_cli.specs.RunWords.{run_app, run_asked, threaded_in, workers_in, workers_of}
use Rattle.flow_cli.specs.Words.{begins_with, items_in, items_of}

-- ---- the command takes words without a fault

defaults_run : list_all T.default_passes (built run_app).top.rules ≡ true
unfolding clap_on_literals
defaults_run = refl

checked_run : (rows : List Row) (has : Bool) → F.check_fault (built run_app).top rows has ≡ [] → T.is_valid (built run_app).top rows has ≡ true
unfolding clap_on_literals
checked_run rows true f = refl
checked_run rows false f = refl

simple_run : is_simple run_app ≡ true
unfolding clap_on_literals
simple_run = refl

free_run : is_simple_and_free run_app ≡ true
unfolding clap_on_literals
free_run = refl

entered_run : (o : Option (Text × List Text)) → T.entered_passes (built run_app) o ≡ true
entered_run None = refl
entered_run (Some p) = refl

faultless_run : (words : List Text) → fault_of run_app words ≡ [] → takes run_app words ≡ true
faultless_run words f = taken run_app simple_run defaults_run checked_run words entered_run f

pub accepted_run : (words : List Text) (c : Command) (m : ArgMatches) → begins_with (codes "run") words ≡ true → app_of c ≡ run_app → (is_simple_and_free (app_of c) ≡ true → fault_of (app_of c) words ≡ []) → HasMatchesOf (app_of c) words m → Some (threaded_in (rows_of (found_of m))) ≡ run_asked words
accepted_run words c m named = accepted_of run_app free_run simple_run faultless_run threaded_in words named c m

pub refused_run : (words : List Text) (c : Command) (e : Error) → begins_with (codes "run") words ≡ true → app_of c ≡ run_app → (takes (app_of c) words ≡ true → kind_of e ≡ OutOfMemory) → (kind_of e ≡ OutOfMemory → ⊥) → None ≡ run_asked words
refused_run words c e named = refused_of run_app free_run simple_run faultless_run threaded_in words named c e

-- ---- the number of workers

pub worked : (text : List ℕ) (n : ℕ) → (IsNumeral 10 (without_leading_plus text) × (digits_value 10 (without_leading_plus text) < 2 ^ 32)) × (n ≡ digits_value 10 (without_leading_plus text)) → 1 ≤ n → n ≤ 64 → n ≡ workers_of text
worked text n h some few = go (accepts false (P.Unsigned 1 64) text) (Accepts-accepts false (P.Unsigned 1 64) text (h.0.0, omega (arith, h.0.1), omega (arith, h.1), omega (arith, h.1)))
  where
    go : (b : Bool) → b ≡ true → n ≡ cond b (digits_value 10 (without_leading_plus text)) 4
    go true e = h.1
    go false e = cc

pub unworked : (text : List ℕ) → (Accepts false (P.Unsigned 1 64) text → ⊥) → 4 ≡ workers_of text
unworked text never = go (accepts false (P.Unsigned 1 64) text) refl
  where
    go : (b : Bool) → accepts false (P.Unsigned 1 64) text ≡ b → 4 ≡ cond b (digits_value 10 (without_leading_plus text)) 4
    go true e = absurd (never (accepts-Accepts false (P.Unsigned 1 64) text e))
    go false e = refl

pub no-workers : (text : List ℕ) → (IsNumeral 10 (without_leading_plus text) × (digits_value 10 (without_leading_plus text) < 2 ^ 32) → ⊥) → 4 ≡ workers_of text
no-workers text never = unworked text (λ a. never (a.0, omega (arith, a.3)))

pub workers-in : (f : Found) (o : Option (Bor Text)) (v : Option Text) (n : ℕ) → option_map (λ s. s.now) o ≡ first_value f (codes "workers") → option_map (λ s. s.now) o ≡ v → n ≡ option_map_or workers_of v 4 → n ≡ workers_in (rows_of f)
workers-in f o v n h e is = is ∙ ap (λ (u : Option Text). option_map_or workers_of u 4) (sym (seen f (codes "workers") o v h e))

-- ---- bounds

module _ (Holds : ℕ → Type 0) (of : Text → ℕ) (otherwise : ℕ) (each : (text : Text) → Holds (of text)) (without : Holds otherwise) where
  holds_of : (o : Option Text) → Holds (option_map_or of o otherwise)
  holds_of None = without
  holds_of (Some text) = each text

workers_text : (text : Text) → (0 < workers_of text) × (workers_of text ≤ 64)
workers_text text = go (accepts false (P.Unsigned 1 64) text) refl
  where
    go : (b : Bool) → accepts false (P.Unsigned 1 64) text ≡ b → (0 < cond b (digits_value 10 (without_leading_plus text)) 4) × (cond b (digits_value 10 (without_leading_plus text)) 4 ≤ 64)
    go true e = let a = accepts-Accepts false (P.Unsigned 1 64) text e in (omega (arith, a.2), omega (arith, a.3))
    go false e = (omega arith, omega arith)

items_text : (text : Text) → items_of text ≤ 2000000
items_text text = go (accepts false (P.Unsigned 0 2000000) text) refl
  where
    go : (b : Bool) → accepts false (P.Unsigned 0 2000000) text ≡ b → cond b (digits_value 10 (without_leading_plus text)) 1000000 ≤ 2000000
    go true e = let a = accepts-Accepts false (P.Unsigned 0 2000000) text e in omega (arith, a.3)
    go false e = omega arith

pub workers_within : (n : ℕ) (rows : List Row) → n ≡ workers_in rows → (0 < n) × (n ≤ 64)
workers_within n rows is = rw is (holds_of (λ k. (0 < k) × (k ≤ 64)) workers_of 4 workers_text (omega arith, omega arith) (first_of (codes "workers") rows))

pub items_within : (n : ℕ) (rows : List Row) → n ≡ items_in rows → n ≤ 2000000
items_within n rows is = rw is (holds_of (λ k. k ≤ 2000000) items_of 1000000 items_text (omega arith) (first_of (codes "items") rows))
