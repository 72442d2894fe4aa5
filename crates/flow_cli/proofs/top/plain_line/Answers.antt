use Rattle.std.proofs.Common.{◌≡◌, Some, map, string_bytes, rules}
use Rattle.flow_cli.specs.Words.{plain_options}
use Rattle.flow_cli.proofs.MeaningLemmas.{unlike_none, plain_shows}
use Rattle.flow_cli.proofs.PlainLemmas.{causes, completes}
use Rattle.flow_cli.proofs.top.plain_line.Goals as goal

pub returns-in-Ok-Some-clause-legal_run : goal.returns-in-Ok-Some-clause-legal_run
returns-in-Ok-Some-clause-legal_run g c =
    let asked : plain_options (map string_bytes c.args.words.now) ≡ Some c.in-Ok-Some.options = search rules in
    rw asked c.run_line.ensures.answer.legal

pub returns-in-Ok-Some-clause-refused : goal.returns-in-Ok-Some-clause-refused
returns-in-Ok-Some-clause-refused g c =
    let asked : plain_options (map string_bytes c.args.words.now) ≡ Some c.in-Ok-Some.options = search rules in
    rw asked c.run_line.ensures.answer.refused

pub returns-in-Ok-Some-clause-scripts : goal.returns-in-Ok-Some-clause-scripts
returns-in-Ok-Some-clause-scripts g c =
    let asked : plain_options (map string_bytes c.args.words.now) ≡ Some c.in-Ok-Some.options = search rules in
    rw asked c.run_line.ensures.answer.scripts

pub returns-in-Ok-Some-clause-waits : goal.returns-in-Ok-Some-clause-waits
returns-in-Ok-Some-clause-waits g c =
    let asked : plain_options (map string_bytes c.args.words.now) ≡ Some c.in-Ok-Some.options = search rules in
    rw asked c.run_line.ensures.answer.waits

pub returns-in-Ok-Some-clause-throughout : goal.returns-in-Ok-Some-clause-throughout
returns-in-Ok-Some-clause-throughout g c =
    let asked : plain_options (map string_bytes c.args.words.now) ≡ Some c.in-Ok-Some.options = search rules in
    rw asked c.run_line.ensures.answer.throughout

pub returns-in-Ok-Some-clause-cause : goal.returns-in-Ok-Some-clause-cause
returns-in-Ok-Some-clause-cause g c =
    let asked : plain_options (map string_bytes c.args.words.now) ≡ Some c.in-Ok-Some.options = search rules in
    rw asked (causes _ _ _ _ _ _ _ _ c.run_line.ensures.answer.printed c.run_line.ensures.answer.done)

pub returns-in-Ok-Some-clause-complete : goal.returns-in-Ok-Some-clause-complete
returns-in-Ok-Some-clause-complete g c = λ source sink.
    let asked : plain_options (map string_bytes c.args.words.now) ≡ Some c.in-Ok-Some.options = search rules in
    rw asked (completes _ _ _ _ _ _ _ _ c.run_line.ensures.answer.printed c.run_line.ensures.answer.document (λ e. source (c.run_line.ensures.read e)) (λ e. sink (c.run_line.ensures.write e)))

pub returns-in-Ok-Some-clause-meaning : goal.returns-in-Ok-Some-clause-meaning
returns-in-Ok-Some-clause-meaning g c = plain_shows _ _ _ _ _ _ _ _ _ c.run_line.ensures.answer

pub returns-in-Ok-None-clause-meaning : goal.returns-in-Ok-None-clause-meaning
returns-in-Ok-None-clause-meaning g c = λ done singles doc is determined. absurd (unlike_none _ _ c.requires.none is)

pub returns-in-Err-clause-meaning : goal.returns-in-Err-clause-meaning
returns-in-Err-clause-meaning g c = λ done singles doc is determined. absurd (unlike_none _ _ c.requires.none is)
