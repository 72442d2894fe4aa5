use Rattle.std.proofs.Common.{map, string_bytes, rules}
use Rattle.flow_cli.specs.Words.{gen_options}
use Rattle.flow_cli.proofs.GenLemmas.{answers_no_line, answers_unread}
use Rattle.flow_cli.proofs.generate.gen_line.Goals as goal

pub returns-in-Ok-None-clause-answer : goal.returns-in-Ok-None-clause-answer
returns-in-Ok-None-clause-answer g c = answers_no_line _ _ (gen_options (map string_bytes c.args.words.now)) _ _ _ _ c.requires.none c.requires.fresh (search rules) c.words_text.result.now (search rules) c.say.ensures.said

pub returns-in-Err-clause-answer : goal.returns-in-Err-clause-answer
returns-in-Err-clause-answer g c = answers_unread _ _ (gen_options (map string_bytes c.args.words.now)) _ _ _ _ c.requires.none c.requires.fresh c.tell_no_memory.ensures.said
