use Rattle.std.proofs.Common.{rules}
use Rattle.flow_cli.proofs.GenLemmas.{never_read}
use Rattle.flow_cli.proofs.MeaningLemmas.{gen_shows}
use Rattle.flow_cli.proofs.top.plain_top.Goals as goal

pub returns-in-Gen-clause-read : goal.returns-in-Gen-clause-read
returns-in-Gen-clause-read g c = λ reads. absurd (never_read _ _ _ _ _ _ _ c.gen_line.ensures.answer reads)

pub returns-in-Gen-clause-meaning : goal.returns-in-Gen-clause-meaning
returns-in-Gen-clause-meaning g c = λ other done. gen_shows _ _ _ _ _ _ _ c.gen_line.ensures.answer done c.shelf_answers_once.ensures

pub returns-in-Plain-clause-meaning : goal.returns-in-Plain-clause-meaning
returns-in-Plain-clause-meaning g c = λ other done. c.plain_line.ensures.meaning done c.shelf_answers_once.ensures
