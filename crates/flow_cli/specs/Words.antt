-- The words of a command line, by what clap makes of them.
use Rattle.std.specs.Prelude.{ℕ, ⊤, Bool, true, false, ◌&&◌, if◌then◌else◌, Option, Some, None, List, [], ◌∷◌, codes}
use Rattle.std.specs.Option.{option_map_or}
use Rattle.std.specs.Str.{bytes_eq}
use Rattle.std.specs.Str.Parse.{digits_value, without_leading_plus}
use Rattle.clap.specs.ValueTests.{accepts}
use Rattle.clap.specs.Words.{App, Row, Rule, Text, first_of, matches_of, new_app, new_rule, takes, with_rule}
use Rattle.clap.specs.declared.builder.action.ArgAction.TheVariants as A
use Rattle.clap.specs.declared.builder.value_parser.ValueParser.TheVariants as P
use Rattle.flow_cli.specs.declared.words.Command.{Command}
use Rattle.flow_cli.specs.declared.words.Command.TheVariants as C
use Rattle.flow_cli.specs.declared.words.Generating.{Generating}
use Rattle.flow_cli.specs.declared.words.Options.{Options}

-- the option `--journal`
abbrev pub journal_rule : Rule
journal_rule = record (new_rule (codes "journal")) { long = Some (codes "journal"); action = Some A.SetTrue }

-- the option `--items N`, with N from 0 to 2000000, or 1000000 where it is left out
abbrev pub items_rule : Rule
items_rule = record (new_rule (codes "items")) { long = Some (codes "items"); action = Some A.Set; parser = Some (P.Unsigned 0 2000000); defaults = codes "1000000" ∷ [] }

-- the command `plain`
abbrev pub plain_app : App
plain_app = with_rule (with_rule (new_app (codes "plain")) journal_rule) items_rule

abbrev pub begins_with : Text → List Text → Bool
begins_with name [] = false
begins_with name (word ∷ rest) = bytes_eq word name

-- the first word is the command's name, and clap takes the words after it
abbrev pub is_line_of : App → List Text → Bool
is_line_of app words = begins_with app.top.name words && takes app words

-- a flag is set where its value is `true`
abbrev pub is_set : Text → List Row → Bool
is_set id rows = option_map_or (λ text. bytes_eq text (codes "true")) (first_of id rows) false

abbrev pub items_of : Text → ℕ
items_of text = if accepts false (P.Unsigned 0 2000000) text then digits_value 10 (without_leading_plus text) else 1000000

abbrev pub items_in : List Row → ℕ
items_in rows = option_map_or items_of (first_of (codes "items") rows) 1000000

abbrev pub options_in : List Row → Options
options_in rows = record { journal = is_set (codes "journal") rows; items = items_in rows }

-- what a line of `plain` asks for; other words are no line of it
abbrev pub plain_options : List Text → Option Options
plain_options words = if is_line_of plain_app words then Some (options_in (matches_of plain_app words)) else None

-- ---- the command `gen`

-- the number, from 1 to 90000
abbrev pub count_rule : Rule
count_rule = record (new_rule (codes "count")) { action = Some A.Set; parser = Some (P.Unsigned 1 90000); required = true }

-- the option `--text`
abbrev pub text_rule : Rule
text_rule = record (new_rule (codes "text")) { long = Some (codes "text"); action = Some A.SetTrue }

abbrev pub gen_app : App
gen_app = with_rule (with_rule (new_app (codes "gen")) count_rule) text_rule

abbrev pub count_of : Text → ℕ
count_of text = if accepts false (P.Unsigned 1 90000) text then digits_value 10 (without_leading_plus text) else 1

abbrev pub count_in : List Row → ℕ
count_in rows = option_map_or count_of (first_of (codes "count") rows) 1

abbrev pub generating_in : List Row → Generating
generating_in rows = record { count = count_in rows; text = is_set (codes "text") rows }

-- what a line of `gen` asks for; other words are no line of it
abbrev pub gen_options : List Text → Option Generating
gen_options words = if is_line_of gen_app words then Some (generating_in (matches_of gen_app words)) else None

-- ---- the command `check`

abbrev pub check_app : App
check_app = new_app (codes "check")

-- a line of `check` has no more to ask
abbrev pub check_asked : List Text → Option ⊤
check_asked words = if is_line_of check_app words then Some tt else None

-- ---- which command

-- the command that the first word names; all words that name none are bad words of `plain`
abbrev pub command_of : List Text → Command
command_of words = if begins_with (codes "gen") words then C.Gen else (if begins_with (codes "check") words then C.Check else C.Plain)
