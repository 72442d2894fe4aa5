use Rattle.std.proofs.Common.{sym, ◌∙◌, ◌∷◌, ◌++◌, ap}
use Rattle.flow_report.specs.Words.{numbers}
use Rattle.flow_print.proofs.Joined.{line_push}
use Rattle.flow_print.proofs.words.text_after.Goals as goal

pub returns : goal.returns
returns c =
    c.in_ok-add_word.ensures
    ∙ ap (λ t. t ++ 32 ∷ c.args.last.now) c.in_ok-text.ensures
    ∙ sym (line_push c.args.word.now (numbers c.args.counts.now) c.args.last.now)
