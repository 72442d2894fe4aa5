use Rattle.std.proofs.Common.{◌≡◌, Some, map, string_bytes, rules}
use Rattle.flow_cli.specs.RunWords.{run_asked}
use Rattle.flow_cli.proofs.MeaningLemmas.{unlike_none}
use Rattle.flow_cli.proofs.PlainLemmas.{causes, completes}
use Rattle.flow_cli.proofs.threads_top.flow_top.Goals as goal

pub returns-in-Ok-Some-clause-document : goal.returns-in-Ok-Some-clause-document
returns-in-Ok-Some-clause-document g c =
    let asked : run_asked (map string_bytes c.args.words.now) ≡ Some c.in-Ok-Some.asked = search rules in
    rw asked c.threaded_line.ensures.answer.document

pub returns-in-Ok-Some-clause-legal_run : goal.returns-in-Ok-Some-clause-legal_run
returns-in-Ok-Some-clause-legal_run g c =
    let asked : run_asked (map string_bytes c.args.words.now) ≡ Some c.in-Ok-Some.asked = search rules in
    rw asked (λ a doc p q. (c.threaded_line.ensures.answer.run a doc p q).legal)

pub returns-in-Ok-Some-clause-refused : goal.returns-in-Ok-Some-clause-refused
returns-in-Ok-Some-clause-refused g c =
    let asked : run_asked (map string_bytes c.args.words.now) ≡ Some c.in-Ok-Some.asked = search rules in
    rw asked (λ a doc p q. (c.threaded_line.ensures.answer.run a doc p q).refused)

pub returns-in-Ok-Some-clause-scripts : goal.returns-in-Ok-Some-clause-scripts
returns-in-Ok-Some-clause-scripts g c =
    let asked : run_asked (map string_bytes c.args.words.now) ≡ Some c.in-Ok-Some.asked = search rules in
    rw asked (λ a doc p q. (c.threaded_line.ensures.answer.run a doc p q).scripts)

pub returns-in-Ok-Some-clause-waits : goal.returns-in-Ok-Some-clause-waits
returns-in-Ok-Some-clause-waits g c =
    let asked : run_asked (map string_bytes c.args.words.now) ≡ Some c.in-Ok-Some.asked = search rules in
    rw asked (λ a doc p q. (c.threaded_line.ensures.answer.run a doc p q).waits)

pub returns-in-Ok-Some-clause-throughout : goal.returns-in-Ok-Some-clause-throughout
returns-in-Ok-Some-clause-throughout g c =
    let asked : run_asked (map string_bytes c.args.words.now) ≡ Some c.in-Ok-Some.asked = search rules in
    rw asked (λ a doc p q. (c.threaded_line.ensures.answer.run a doc p q).throughout)

pub returns-in-Ok-Some-clause-printed : goal.returns-in-Ok-Some-clause-printed
returns-in-Ok-Some-clause-printed g c =
    let asked : run_asked (map string_bytes c.args.words.now) ≡ Some c.in-Ok-Some.asked = search rules in
    rw asked c.threaded_line.ensures.answer.printed

pub returns-in-Ok-Some-clause-cause : goal.returns-in-Ok-Some-clause-cause
returns-in-Ok-Some-clause-cause g c =
    let asked : run_asked (map string_bytes c.args.words.now) ≡ Some c.in-Ok-Some.asked = search rules in
    rw asked (causes _ _ _ _ _ _ _ _ c.threaded_line.ensures.answer.printed c.threaded_line.ensures.answer.done)

pub returns-in-Ok-Some-clause-complete : goal.returns-in-Ok-Some-clause-complete
returns-in-Ok-Some-clause-complete g c = λ source sink.
    let asked : run_asked (map string_bytes c.args.words.now) ≡ Some c.in-Ok-Some.asked = search rules in
    rw asked (completes _ _ _ _ _ _ _ _ c.threaded_line.ensures.answer.printed c.threaded_line.ensures.answer.document (λ e. source (c.threaded_line.ensures.read e)) (λ e. sink (c.threaded_line.ensures.write e)))

pub returns-in-Ok-Some-clause-meaning : goal.returns-in-Ok-Some-clause-meaning
returns-in-Ok-Some-clause-meaning g c = c.threaded_line.ensures.meaning

pub returns-in-Ok-None-clause-meaning : goal.returns-in-Ok-None-clause-meaning
returns-in-Ok-None-clause-meaning g c = λ done doc is determined. absurd (unlike_none _ _ c.requires.none is)

pub returns-in-Err-clause-meaning : goal.returns-in-Err-clause-meaning
returns-in-Err-clause-meaning g c = λ done doc is determined. absurd (unlike_none _ _ c.requires.none is)
