use Rattle.std.proofs.Common.{ap, ◌++◌, ◌∙◌}
use Rattle.json.specs.Print.{print}
use Rattle.flow_print.proofs.Tokens.{value_alone}
use Rattle.flow_print.proofs.values.add_written.Goals as goal

pub returns : goal.returns
returns c =
    c.into_inner.ensures.items ∙ ap (λ x. x ++ print c.write_value.new.out.tokens) (c.in_ok-write_value.ensures.before ∙ c.writer_after-writer.ensures.before)
    ∙ ap (λ x. c.args.out.now.items ++ x) (value_alone c.args.val.now c.writer_after-writer.result.tokens c.write_value.new.out.tokens c.writer_after-writer.ensures.tokens c.in_ok-write_value.ensures.tokens)
