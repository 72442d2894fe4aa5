-- Where clap finds no fault in the words of a simple command, the command takes them.
use Rattle.std.proofs.Common.{◌≡◌, ◌∙◌, ℕ, zero, suc, ◌+◌, ◌<◌, ◌≤◌, Bool, true, false, not, cond, ◌&&◌, ◌||◌, ◌==◌, nat_lt, nat_le, List, [], ◌∷◌, length, drop, min, Option, Some, None, is_some, codes, refl, sym, ap, arith, eqb-true}
use Rattle.std.specs.Prelude.{encode_utf8, find, slice_get}
use Rattle.std.specs.List.{list_all}
use Rattle.std.specs.Option.{option_map_or}
use Rattle.std.specs.Str.{bytes_eq, chars}
use Rattle.clap.specs.Lexer.{long_of, short_of}
use Rattle.clap.specs.Matches.{count_text}
use Rattle.clap.specs.Facts.{parser_of_value, unwrap_or_range}
use Rattle.clap.specs.ValueTests.{accepts}
use Rattle.clap.specs.Walk.{Held, Names, Row, Rule, Step, Text, Waiting, Walk, action_of, answers_to, arg_by_id, arg_by_index, arg_by_long, arg_by_short, attached_value, count_of, finished, has_row, is_pending, most_values, next, nothing_held, reacted, settled, subcommand, subcommand_met, takes_several, takes_values, trailing, value, values_or_missing, walk, walk_from, walked, word_met}
use Rattle.clap.specs.Simple.{App, Shape, argument_words, built, entered, is_simple, label_of, names_of}
use Rattle.clap.specs.Kinds.{Kinds, or_else, range_kinds, request_kinds, value_kinds, values_kinds}
use Rattle.clap.specs.Takes as T
use Rattle.clap.specs.Faults as F
use Rattle.clap.specs.declared.builder.action.ArgAction.{ArgAction}
use Rattle.clap.specs.declared.builder.action.ArgAction.TheVariants as A
use Rattle.clap.specs.declared.builder.value_parser.ValueParser.{ValueParser}
use Rattle.clap.specs.declared.error.kind.ErrorKind.{ErrorKind}
use Rattle.clap.specs.declared.error.kind.ErrorKind.TheVariants as kind
use Rattle.clap.proofs.OnLiterals.{clap_on_literals}
use Rattle.flow_cli.specs.Words.{plain_app, gen_app, check_app}

-- ---- kinds

or_none : (a b : Kinds) → or_else a b ≡ [] → (a ≡ []) × (b ≡ [])
or_none [] b h = (refl, h)
or_none (k ∷ ks) b h = cc

none_true : (b : Bool) (k : ErrorKind) → cond b [] (k ∷ []) ≡ [] → b ≡ true
none_true true k h = refl
none_true false k h = cc

none_false : (b : Bool) (k : ErrorKind) (ks rest : Kinds) → cond b (k ∷ ks) rest ≡ [] → (b ≡ false) × (rest ≡ [])
none_false true k ks rest h = cc
none_false false k ks rest h = (refl, h)

both_true : (a b : Bool) → a ≡ true → b ≡ true → (a && b) ≡ true
both_true true b p q = q
both_true false b p q = cc

range_ok : (least most n : ℕ) → range_kinds least most n ≡ [] → (nat_le least n ≡ true) × (nat_le n most ≡ true)
range_ok least most n h = by_same (least == most) refl (none_false (nat_lt 0 least && n == 0) kind.InvalidValue [] _ h).1
  where
    same_both : least ≡ most → least ≡ n → (nat_le least n ≡ true) × (nat_le n most ≡ true)
    same_both p q = (grind (arith), grind (arith))

    apart_both : nat_lt n least ≡ false → nat_lt most n ≡ false → (nat_le least n ≡ true) × (nat_le n most ≡ true)
    apart_both p q = (grind (arith), grind (arith))

    by_same : (b : Bool) → (least == most) ≡ b → cond b (cond (least == n) [] (kind.WrongNumberOfValues ∷ [])) (cond (nat_lt n least) (kind.TooFewValues ∷ []) (cond (nat_lt most n) (kind.TooManyValues ∷ []) [])) ≡ [] → (nat_le least n ≡ true) × (nat_le n most ≡ true)
    by_same true s e = same_both (eqb-true least most s) (eqb-true least n (none_true (least == n) kind.WrongNumberOfValues e))
    by_same false s e =
        let few = none_false (nat_lt n least) kind.TooFewValues [] _ e in
        let many = none_false (nat_lt most n) kind.TooManyValues [] [] few.1 in
        apart_both few.0 many.0

-- ---- one use of an argument

values_ok : (ignore_case : Bool) (p : ValueParser) (vs : List Text) → values_kinds ignore_case p vs ≡ [] → list_all (accepts ignore_case p) vs ≡ true
values_ok ignore_case p [] h = refl
values_ok ignore_case p (v ∷ vs) h =
    let both = or_none (value_kinds ignore_case p v) (values_kinds ignore_case p vs) h in
    both_true (accepts ignore_case p v) _ (none_true (accepts ignore_case p v) _ both.0) (values_ok ignore_case p vs both.1)

repeat_ok : (has again : Bool) → cond (has && not again) (kind.ArgumentConflict ∷ []) [] ≡ [] → (not has || again) ≡ true
repeat_ok true true h = refl
repeat_ok true false h = cc
repeat_ok false again h = refl

set_ok : (again : Bool) (a : Rule) (vs : List Text) (rows : List Row) → F.set_fault again a vs rows ≡ [] → T.set_passes again a vs rows ≡ true
set_ok again a vs rows h =
    let both = or_none (F.repeat_fault again a.id rows) (F.values_fault a vs) h in
    both_true _ _ (repeat_ok (has_row a.id rows) again both.0) (values_ok a.ignore_case (parser_of_value a.parser) vs both.1)

count_ok : (a : Rule) (vs : List Text) (rows : List Row) → F.count_fault a vs rows ≡ [] → T.count_passes a vs rows ≡ true
count_ok a [] rows h = none_true (accepts a.ignore_case (parser_of_value a.parser) (count_text (min (count_of a.id rows + 1) 255))) _ h
count_ok a (v ∷ vs) rows h = values_ok a.ignore_case (parser_of_value a.parser) (v ∷ vs) h

action_ok : (x : ArgAction) (again : Bool) (a : Rule) (vs : List Text) (rows : List Row) → F.action_fault x again a vs rows ≡ [] → T.action_passes x again a vs rows ≡ true
action_ok A.Set again a vs rows h = set_ok again a vs rows h
action_ok A.SetTrue again a vs rows h = set_ok again a vs rows h
action_ok A.SetFalse again a vs rows h = set_ok again a vs rows h
action_ok A.Append again a vs rows h = values_ok a.ignore_case (parser_of_value a.parser) vs h
action_ok A.Count again a vs rows h = count_ok a vs rows h
action_ok x again a vs rows h = cc

use_ok : (again : Bool) (a : Rule) (vs : List Text) (rows : List Row) → F.use_fault again a vs rows ≡ [] → T.use_passes again a vs rows ≡ true
use_ok again a vs rows h =
    let both = or_none (range_kinds (unwrap_or_range a.range).start_inclusive (most_values a) (length vs)) (F.action_fault (action_of a) again a (values_or_missing a vs) rows) h in
    let range = range_ok (unwrap_or_range a.range).start_inclusive (most_values a) (length vs) both.0 in
    both_true _ _ range.0 (both_true _ _ range.1 (action_ok (action_of a) again a (values_or_missing a vs) rows both.1))

-- ---- one word

module _ (c : List Rule) (again : Bool) where
  settle_ok : (h : Held) → F.settle_fault c again h ≡ [] → T.settle_passes c again h ≡ true
  settle_ok h f = by_pending h.pending f
    where
      by_rule : (p : Text × List Text) (o : Option Rule) → option_map_or (λ a. F.use_fault again a p.1 h.rows) o [] ≡ [] → option_map_or (λ a. T.use_passes again a p.1 h.rows) o true ≡ true
      by_rule p None f = refl
      by_rule p (Some a) f = use_ok again a p.1 h.rows f

      by_pending : (o : Option (Text × List Text)) → option_map_or (λ p. option_map_or (λ a. F.use_fault again a p.1 h.rows) (arg_by_id c p.0) []) o [] ≡ [] → option_map_or (λ p. option_map_or (λ a. T.use_passes again a p.1 h.rows) (arg_by_id c p.0) true) o true ≡ true
      by_pending None f = refl
      by_pending (Some p) f = by_rule p (arg_by_id c p.0) f

  react_ok : (a : Rule) (vs : List Text) (h : Held) → F.react_fault c again a vs h ≡ [] → T.react_passes c again a vs h ≡ true
  react_ok a vs h f =
      let both = or_none (F.settle_fault c again h) (F.use_fault again a vs (settled c h).rows) f in
      both_true _ _ (settle_ok h both.0) (use_ok again a vs (settled c h).rows both.1)

  option_ok : (a : Rule) (v : Option Text) (h : Held) → F.option_fault c again a v h ≡ [] → T.option_passes c again a v h ≡ true
  option_ok a (Some v) h f = react_ok a (v ∷ []) h f
  option_ok a None h f = settle_ok h f

  long_ok : (o : Option Rule) (v : Option Text) (h : Held) → F.long_fault c again o v h ≡ [] → T.long_passes c again o v h ≡ true
  long_ok None v h f = cc
  long_ok (Some a) v h f = by_kind (takes_values a) f
    where
      by_value : (b : Bool) → cond b (kind.TooManyValues ∷ []) (F.react_fault c again a [] h) ≡ [] → (not b && T.react_passes c again a [] h) ≡ true
      by_value true f = cc
      by_value false f = react_ok a [] h f

      by_kind : (b : Bool) → cond b (F.option_fault c again a v h) (cond (is_some v) (kind.TooManyValues ∷ []) (F.react_fault c again a [] h)) ≡ [] → cond b (T.option_passes c again a v h) (not (is_some v) && T.react_passes c again a [] h) ≡ true
      by_kind true f = option_ok a v h f
      by_kind false f = by_value (is_some v) f

  short_ok : (o : Option Rule) (rest : Text) (h : Held) (faults : Held → Kinds) (passes : Held → Bool) → ((g : Held) → faults g ≡ [] → passes g ≡ true) → F.short_fault c again o rest h faults ≡ [] → T.short_passes c again o rest h passes ≡ true
  short_ok None rest h faults passes ok f = cc
  short_ok (Some a) rest h faults passes ok f = by_kind (takes_values a) f
    where
      by_kind : (b : Bool) → cond b (F.option_fault c again a (attached_value rest) h) (or_else (F.react_fault c again a [] h) (faults (reacted c a [] h))) ≡ [] → cond b (T.option_passes c again a (attached_value rest) h) (T.react_passes c again a [] h && passes (reacted c a [] h)) ≡ true
      by_kind true f = option_ok a (attached_value rest) h f
      by_kind false f =
          let both = or_none (F.react_fault c again a [] h) (faults (reacted c a [] h)) f in
          both_true _ _ (react_ok a [] h both.0) (ok (reacted c a [] h) both.1)

  flags_ok : (k : ℕ) (flags : Text) (skip : ℕ) (h : Held) → F.flags_fault c again k flags skip h ≡ [] → T.flags_pass c again k flags skip h ≡ true
  unfolding F.flags_fault T.flags_pass
  flags_ok zero flags skip h f = refl
  flags_ok (suc k) flags skip h f = by_step (slice_get (chars flags) 0) skip f (flags_ok k)
    where
      by_step : (o : Option ℕ) (skip : ℕ) → F.bundle_step_fault c again o flags skip h (F.flags_fault c again k) ≡ [] → ((rest : Text) (skip : ℕ) (g : Held) → F.flags_fault c again k rest skip g ≡ [] → T.flags_pass c again k rest skip g ≡ true) → T.bundle_step_passes c again o flags skip h (T.flags_pass c again k) ≡ true
      by_step None skip f ok = refl
      by_step (Some x) zero f ok =
          let rest = drop (length (encode_utf8 x)) flags in
          short_ok (arg_by_short c x) rest h (F.flags_fault c again k rest 0) (T.flags_pass c again k rest 0) (ok rest 0) f
      by_step (Some x) (suc skip) f ok = ok (drop (length (encode_utf8 x)) flags) skip h f

  flag_word_ok : (o : Option (Text × Option Text)) (word : Text) (h : Held) → F.flag_word_fault c again o word h ≡ [] → T.flag_word_passes c again o word h ≡ true
  flag_word_ok (Some p) word h f = long_ok (arg_by_long c p.0) p.1 h f
  flag_word_ok None word h f = by_flags (short_of word) f
    where
      by_flags : (o : Option Text) → option_map_or (λ flags. F.bundle_fault c again flags h) o [] ≡ [] → option_map_or (λ flags. T.bundle_passes c again flags h) o true ≡ true
      by_flags None f = refl
      by_flags (Some flags) f = flags_ok (length flags) flags h.skip (record h { skip = 0 }) f

  positional_ok : (a : Rule) (h : Held) → F.positional_fault c again a h ≡ [] → T.positional_passes c again a h ≡ true
  positional_ok a h f = by_pending (is_pending a h.pending && takes_several a) f
    where
      by_pending : (b : Bool) → cond b [] (F.settle_fault c again h) ≡ [] → (b || T.settle_passes c again h) ≡ true
      by_pending true f = refl
      by_pending false f = settle_ok h f

-- ---- all words

module _ (s : Shape) (names : Names) where
  other_ok : (o : Option Text) (word : Text) (h : Held) → F.other_fault s o word h ≡ [] → T.other_passes s o word h ≡ true
  other_ok (Some name) word h f = by_help (bytes_eq name (codes "help")) s.disable_help_subcommand f
    where
      by_help : (a b : Bool) → cond (a && not b) (kind.DisplayHelp ∷ kind.InvalidSubcommand ∷ []) [] ≡ [] → (not a || b) ≡ true
      by_help true true f = refl
      by_help true false f = cc
      by_help false b f = refl
  other_ok None word h f = by_end (bytes_eq word (45 ∷ 45 ∷ [])) f
    where
      by_end : (b : Bool) → cond b [] (F.flag_word_fault s.rules s.args_override_self (long_of word) word h) ≡ [] → (b || T.flag_word_passes s.rules s.args_override_self (long_of word) word h) ≡ true
      by_end true f = refl
      by_end false f = flag_word_ok s.rules s.args_override_self (long_of word) word h f

  word_ok : (is_trailing : Bool) (waiting : Waiting) (word : Text) (h : Held) → F.word_fault s names is_trailing waiting word h ≡ [] → T.word_passes s names is_trailing waiting word h ≡ true
  word_ok true waiting word h f = refl
  word_ok false waiting word h f = other_ok (subcommand_met names waiting word) word h f

  stray : F.stray_fault s ≡ [] → ⊥
  stray f = by_leaf s.is_leaf f
    where
      by_leaf : (b : Bool) → cond b (kind.UnknownArgument ∷ []) (kind.UnknownArgument ∷ kind.InvalidSubcommand ∷ []) ≡ [] → ⊥
      by_leaf true f = cc
      by_leaf false f = cc

  step_ok : (position : ℕ) (h : Held) (step : Step) → F.step_fault s position h step ≡ [] → T.step_passes s position h step ≡ true
  step_ok position h value f = by_rule (arg_by_index s.rules position) f
    where
      by_rule : (o : Option Rule) → option_map_or (λ a. F.positional_fault s.rules s.args_override_self a h) o (F.stray_fault s) ≡ [] → option_map_or (λ a. T.positional_passes s.rules s.args_override_self a h) o false ≡ true
      by_rule None f = absurd (stray f)
      by_rule (Some a) f = positional_ok s.rules s.args_override_self a h f
  step_ok position h step f = refl

  turn_ok : (w : Walk) (word : Text) → F.turn_fault s names w word ≡ [] → T.turn_passes s names w word ≡ true
  turn_ok w word f = by_stop (is_some w.stopped) f
    where
      by_stop : (b : Bool) → cond b [] (or_else (F.word_fault s names w.is_trailing w.waiting word w.held) (F.step_fault s w.position (word_met s.rules names w.is_trailing w.waiting w.position word w.held).0 (word_met s.rules names w.is_trailing w.waiting w.position word w.held).1)) ≡ [] → (b || (T.word_passes s names w.is_trailing w.waiting word w.held && T.step_passes s w.position (word_met s.rules names w.is_trailing w.waiting w.position word w.held).0 (word_met s.rules names w.is_trailing w.waiting w.position word w.held).1)) ≡ true
      by_stop true f = refl
      by_stop false f =
          let both = or_none (F.word_fault s names w.is_trailing w.waiting word w.held) _ f in
          both_true _ _ (word_ok w.is_trailing w.waiting word w.held both.0) (step_ok w.position (word_met s.rules names w.is_trailing w.waiting w.position word w.held).0 (word_met s.rules names w.is_trailing w.waiting w.position word w.held).1 both.1)

  walk_ok : (w : Walk) (words : List Text) → F.walk_fault s names w words ≡ [] → T.walk_passes s names w words ≡ true
  unfolding F.walk_fault T.walk_passes
  walk_ok w [] f = refl
  walk_ok w (word ∷ rest) f =
      let both = or_none (F.turn_fault s names w word) (F.walk_fault s names (walked s.rules names w word) rest) f in
      both_true _ _ (turn_ok w word both.0) (walk_ok (walked s.rules names w word) rest both.1)

-- ---- a command

module _ (app : App) (simple : is_simple app ≡ true) (defaults : list_all T.default_passes (built app).top.rules ≡ true)
    (checked : (rows : List Row) (has : Bool) → F.check_fault (built app).top rows has ≡ [] → T.is_valid (built app).top rows has ≡ true) (words : List Text) where
  abbrev top : Shape
  top = (built app).top

  abbrev rest : List Text
  rest = argument_words app words

  abbrev names : Names
  names = names_of (built app)

  abbrev end : Held
  end = (walk top.rules names nothing_held rest).held

  abbrev stop : Option (Text × List Text)
  stop = (walk top.rules names nothing_held rest).stopped

  pub taken : ((o : Option (Text × List Text)) → T.entered_passes (built app) o ≡ true) → F.fault_of app words ≡ [] → T.takes app words ≡ true
  taken by_entry f = both_true (is_simple app) _ simple (both_true (T.entered_passes (built app) stop) _ (by_entry stop) (both_true _ _ (walk_ok top names (walk_from nothing_held) rest walked_none.0) (both_true _ _ (settle_ok top.rules top.args_override_self end settled_none.0) (both_true _ _ defaults (checked (finished top.rules end) (is_some (entered (built app) stop)) checked_none)))))
    where
      walked_none : (F.walk_fault top names (walk_from nothing_held) rest ≡ []) × (or_else (F.entered_fault (built app) stop) (or_else (F.settle_fault top.rules top.args_override_self end) (or_else (F.defaults_fault (settled top.rules end).rows top.rules) (F.check_fault top (finished top.rules end) (is_some (entered (built app) stop))))) ≡ [])
      walked_none = or_none _ _ f

      settled_none : (F.settle_fault top.rules top.args_override_self end ≡ []) × (or_else (F.defaults_fault (settled top.rules end).rows top.rules) (F.check_fault top (finished top.rules end) (is_some (entered (built app) stop))) ≡ [])
      settled_none = or_none _ _ (or_none (F.entered_fault (built app) stop) _ walked_none.1).1

      checked_none : F.check_fault top (finished top.rules end) (is_some (entered (built app) stop)) ≡ []
      checked_none = (or_none (F.defaults_fault (settled top.rules end).rows top.rules) _ settled_none.1).1

-- ---- the command `plain`

defaults_plain : list_all T.default_passes (built plain_app).top.rules ≡ true
unfolding clap_on_literals
defaults_plain = refl

checked_plain : (rows : List Row) (has : Bool) → F.check_fault (built plain_app).top rows has ≡ [] → T.is_valid (built plain_app).top rows has ≡ true
unfolding clap_on_literals
checked_plain rows true f = refl
checked_plain rows false f = refl

simple_plain : is_simple plain_app ≡ true
unfolding clap_on_literals
simple_plain = refl

entered_plain : (o : Option (Text × List Text)) → T.entered_passes (built plain_app) o ≡ true
entered_plain None = refl
entered_plain (Some p) = refl

pub faultless : (words : List Text) → F.fault_of plain_app words ≡ [] → T.takes plain_app words ≡ true
faultless words f = taken plain_app simple_plain defaults_plain checked_plain words entered_plain f

-- ---- the command `gen`

defaults_gen : list_all T.default_passes (built gen_app).top.rules ≡ true
unfolding clap_on_literals
defaults_gen = refl

-- its number has to be there
checked_gen : (rows : List Row) (has : Bool) → F.check_fault (built gen_app).top rows has ≡ [] → T.is_valid (built gen_app).top rows has ≡ true
unfolding clap_on_literals
checked_gen rows has f = by_given has (T.is_given (codes "count") rows) f
  where
    by_given : (has given : Bool) → cond (not has && false) (kind.DisplayHelpOnMissingArgumentOrSubcommand ∷ []) (cond (not has && false) (kind.MissingSubcommand ∷ []) (cond (not (false && has) && (not given || false)) (kind.MissingRequiredArgument ∷ []) [])) ≡ [] → ((false && has) || (given && true)) ≡ true
    by_given true true f = refl
    by_given false true f = refl
    by_given true false f = cc
    by_given false false f = cc

simple_gen : is_simple gen_app ≡ true
unfolding clap_on_literals
simple_gen = refl

entered_gen : (o : Option (Text × List Text)) → T.entered_passes (built gen_app) o ≡ true
entered_gen None = refl
entered_gen (Some p) = refl

pub faultless_gen : (words : List Text) → F.fault_of gen_app words ≡ [] → T.takes gen_app words ≡ true
faultless_gen words f = taken gen_app simple_gen defaults_gen checked_gen words entered_gen f

-- ---- the command `check`

defaults_check : list_all T.default_passes (built check_app).top.rules ≡ true
unfolding clap_on_literals
defaults_check = refl

checked_check : (rows : List Row) (has : Bool) → F.check_fault (built check_app).top rows has ≡ [] → T.is_valid (built check_app).top rows has ≡ true
unfolding clap_on_literals
checked_check rows true f = refl
checked_check rows false f = refl

simple_check : is_simple check_app ≡ true
unfolding clap_on_literals
simple_check = refl

entered_check : (o : Option (Text × List Text)) → T.entered_passes (built check_app) o ≡ true
entered_check None = refl
entered_check (Some p) = refl

pub faultless_check : (words : List Text) → F.fault_of check_app words ≡ [] → T.takes check_app words ≡ true
faultless_check words f = taken check_app simple_check defaults_check checked_check words entered_check f
