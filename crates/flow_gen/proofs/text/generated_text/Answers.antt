use Rattle.std.proofs.Common.{string_bytes}
use Rattle.flow_gen.proofs.Texts.{text_is}
use Rattle.flow_gen.proofs.text.generated_text.Goals as goal

pub returns-in-Ok : goal.returns-in-Ok
returns-in-Ok c = λ shelf has. text_is shelf c.args.count (string_bytes c.in-Ok.text) c.in-Ok.ensures has
