use Rattle.std.proofs.Common.{rules, refl, Some, None}
use Rattle.clap.specs.Words.{found_of}
use Rattle.flow_cli.proofs.RunWordLemmas.{workers-in}
use Rattle.flow_cli.proofs.threads_words.workers_in.Goals as goal

pub returns-in-Some : goal.returns-in-Some
returns-in-Some c = workers-in (found_of c.args.matches.now) c.get_str.result (Some c.in-Some.text.now) c.workers_of.result (search rules) (search rules) (search rules)

pub returns-in-None : goal.returns-in-None
returns-in-None c = workers-in (found_of c.args.matches.now) c.get_str.result None _ (search rules) (search rules) refl
