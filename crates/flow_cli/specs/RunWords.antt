-- The words of a line of `run`, by what clap makes of them.
use Rattle.std.specs.Prelude.{ℕ, false, if◌then◌else◌, Option, Some, None, option_map, List, [], ◌∷◌, codes}
use Rattle.std.specs.Option.{option_map_or}
use Rattle.std.specs.Str.Parse.{digits_value, without_leading_plus}
use Rattle.clap.specs.ValueTests.{accepts}
use Rattle.clap.specs.Words.{App, Row, Rule, Text, first_of, matches_of, new_app, new_rule, with_rule}
use Rattle.clap.specs.declared.builder.action.ArgAction.TheVariants as A
use Rattle.clap.specs.declared.builder.value_parser.ValueParser.TheVariants as P
use Rattle.flow_cli.specs.declared.words.Options.{Options}
use Rattle.flow_cli.specs.declared.threads_words.Threaded.{Threaded}
use Rattle.flow_cli.specs.Words.{is_line_of, items_rule, journal_rule, options_in}

-- the option `--workers N`, with N from 1 to 64, or 4 where it is left out
abbrev pub workers_rule : Rule
workers_rule = record (new_rule (codes "workers")) { long = Some (codes "workers"); action = Some A.Set; parser = Some (P.Unsigned 1 64); defaults = codes "4" ∷ [] }

-- the command `run` with the options that `plain` has too
abbrev pub usual_app : App
usual_app = with_rule (with_rule (new_app (codes "run")) journal_rule) items_rule

-- the command `run`
abbrev pub run_app : App
run_app = with_rule usual_app workers_rule

abbrev pub workers_of : Text → ℕ
workers_of text = if accepts false (P.Unsigned 1 64) text then digits_value 10 (without_leading_plus text) else 4

abbrev pub workers_in : List Row → ℕ
workers_in rows = option_map_or workers_of (first_of (codes "workers") rows) 4

abbrev pub threaded_in : List Row → Threaded
threaded_in rows = record { options = options_in rows; workers = workers_in rows }

-- what a line of `run` asks for; other words are no line of it
abbrev pub run_asked : List Text → Option Threaded
run_asked words = if is_line_of run_app words then Some (threaded_in (matches_of run_app words)) else None

-- what it asks of any run
abbrev pub run_options : List Text → Option Options
run_options words = option_map (λ asked. asked.options) (run_asked words)
