use Rattle.std.proofs.Common.{rules, refl, Some, None}
use Rattle.clap.specs.Words.{found_of}
use Rattle.flow_cli.proofs.WordLemmas.{count-in}
use Rattle.flow_cli.proofs.words.count_in.Goals as goal

pub returns-in-Some : goal.returns-in-Some
returns-in-Some c = count-in (found_of c.args.matches.now) c.get_str.result (Some c.in-Some.text.now) c.count_of.result (search rules) (search rules) (search rules)

pub returns-in-None : goal.returns-in-None
returns-in-None c = count-in (found_of c.args.matches.now) c.get_str.result None _ (search rules) (search rules) refl
