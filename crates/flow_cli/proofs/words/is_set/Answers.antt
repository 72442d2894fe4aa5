use Rattle.std.proofs.Common.{rules, refl, Some, None, option_map, ap}
use Rattle.clap.specs.Words.{found_of}
use Rattle.flow_cli.proofs.WordLemmas.{is-set}
use Rattle.flow_cli.proofs.words.is_set.Goals as goal

pub returns-in-Some : goal.returns-in-Some
returns-in-Some c = is-set (found_of c.args.matches.now) c.args.id.now c.get_str.result (Some c.in-Some.text.now) c.eq.result c.get_str.ensures (search rules) (search rules)

pub returns-in-None : goal.returns-in-None
returns-in-None c = is-set (found_of c.args.matches.now) c.args.id.now c.get_str.result None _ c.get_str.ensures (search rules) refl
