use Rattle.std.proofs.Common.{◌∷◌, ◌++◌, [], codes, string_bytes, ap, ◌∙◌}
use Rattle.flow_report.specs.Words.{line, numbers}
use Rattle.flow_print.proofs.Joined.{answer_joined, text_same}
use Rattle.flow_print.proofs.lines.answered_text.Goals as goal

pub returns : goal.returns
returns c =
    let ns = c.args.counts.now in
    text_same string_bytes c.text_after.result _ _
    (ap (λ t. line (codes "put" ∷ (numbers ns ++ t ∷ []))) (c.as_str.ensures.value ∙ c.in_ok-how.ensures) ∙ answer_joined (numbers ns) c.args.answer)
    c.text_after.ensures
