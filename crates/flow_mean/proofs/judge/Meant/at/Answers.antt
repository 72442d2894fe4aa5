use Rattle.std.proofs.Common.{Bool, [], get_or, cond, sym, ap, ◌∙◌, List}
use Rattle.flow_mean.specs.Maps.{TagMap}
use Rattle.flow_mean.proofs.judge.Meant.at.Goals as goal

pub returns-then-is_shown : goal.returns-then-is_shown
returns-then-is_shown c =
    c.pairs_at.ensures ∙ ap (λ (l : List TagMap). get_or l c.args.node []) c.as_slice.ensures.value
    ∙ sym (ap (λ (b : Bool). cond b (get_or c.args.self.now.flow.kept.items c.args.node []) (get_or c.args.self.now.flow.passed.items c.args.node [])) (sym c.is_shown.ensures ∙ c.if-is_shown.true))

pub returns : goal.returns
returns c =
    c.pairs_at-2.ensures ∙ ap (λ (l : List TagMap). get_or l c.args.node []) c.as_slice-2.ensures.value
    ∙ sym (ap (λ (b : Bool). cond b (get_or c.args.self.now.flow.kept.items c.args.node []) (get_or c.args.self.now.flow.passed.items c.args.node [])) (sym c.is_shown.ensures ∙ c.if-is_shown.false))
