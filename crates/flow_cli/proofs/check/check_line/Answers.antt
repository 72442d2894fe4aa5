use Rattle.std.proofs.Common.{◌≡◌, Some, map, string_bytes, rules}
use Rattle.flow_cli.specs.Words.{check_asked}
use Rattle.flow_cli.proofs.CheckLemmas.{answers_no_line, answers_unread}
use Rattle.flow_cli.proofs.check.check_line.Goals as goal

pub returns-in-Ok-Some-clause-answer : goal.returns-in-Ok-Some-clause-answer
returns-in-Ok-Some-clause-answer g c =
    let asked : check_asked (map string_bytes c.args.words.now) ≡ Some tt = search rules in
    rw asked c.check_input.ensures.answer

pub returns-in-Ok-None-clause-answer : goal.returns-in-Ok-None-clause-answer
returns-in-Ok-None-clause-answer g c = answers_no_line _ _ (check_asked (map string_bytes c.args.words.now)) _ _ _ _ _ _ (search rules) c.requires.none c.requires.fresh c.words_text.result.now (search rules) c.say.ensures.said

pub returns-in-Err-clause-answer : goal.returns-in-Err-clause-answer
returns-in-Err-clause-answer g c = answers_unread _ _ (check_asked (map string_bytes c.args.words.now)) _ _ _ _ _ _ c.requires.none c.requires.fresh c.tell_no_memory.ensures.said
