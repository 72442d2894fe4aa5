use Rattle.std.proofs.Common.{string_bytes}
use Rattle.flow_gen.proofs.Texts.{adds_first, adds_later}
use Rattle.flow_gen.proofs.text.add_put.Goals as goal

pub returns-then-number-eq0 : goal.returns-then-number-eq0
returns-then-number-eq0 c = adds_first (string_bytes c.args.out.now) _ c.args.number c.if-number-eq0.true c.in_ok-push_str.ensures.bytes

pub returns : goal.returns
returns c = adds_later (string_bytes c.args.out.now) _ _ _ _ _ c.args.number c.if-number-eq0.false c.in_ok-push_str-2.ensures.bytes c.in_ok-add_number.ensures c.in_ok-push_str-3.ensures.bytes c.in_ok-add_number-2.ensures c.in_ok-push_str-4.ensures.bytes
