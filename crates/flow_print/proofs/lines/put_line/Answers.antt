use Rattle.std.proofs.Common.{◌∙◌}
use Rattle.flow_report.specs.Words.{numbers}
use Rattle.flow_report.specs.EventLines.{answer_words}
use Rattle.flow_report.specs.Values.{value_text}
use Rattle.flow_print.proofs.Joined.{put_joined}
use Rattle.flow_print.proofs.lines.put_line.Goals as goal

pub returns : goal.returns
returns c =
    put_joined (numbers c.args.counts.now) (answer_words c.args.answer) (value_text c.args.val.now) _ _ _ c.in_ok-text.ensures (c.as_str.ensures.value ∙ c.in_ok-value.ensures) c.in_ok-add_word.ensures
