use Rattle.std.proofs.Common.{◌≡◌, ◌++◌, length, ap, ◌∙◌, rules}
use Rattle.std.specs.Prelude.{reverse}
use Rattle.std.specs.Option.{option_to_list}
use Rattle.flow_mean.proofs.Reversed.{answers-begin, answers-on, answers-end}
use Rattle.flow_mean.proofs.passes.answers.Goals as goal

pub loop-pair-init : goal.loop-pair-init
loop-pair-init g c = answers-begin _ c.args.arrived c.in_ok-pairs.pairs.items c.reverse.new.self.items c.in_ok-pairs.ensures.items (c.reverse.ensures.items ∙ ap reverse c.into_vec-left.ensures)

pub loop-pair-preserved : goal.loop-pair-preserved
loop-pair-preserved g c = answers-on _ c.args.arrived c.loop-pair.pairs.items c.answer.new.pairs.items c.loop-pair.left.items c.pop.new.self.items c.in-Some.pair (c.pop.ensures.items ∙ ap (λ o. c.pop.new.self.items ++ option_to_list o) c.in-Some.is) c.in_ok-answer.ensures c.loop-pair.invariant

pub returns : goal.returns
returns g c =
    let none : length c.loop-pair.left.items ≡ 0 = search rules in
    c.from_vec.ensures ∙ answers-end _ c.args.arrived c.loop-pair.pairs.items c.loop-pair.left.items none c.loop-pair.invariant
