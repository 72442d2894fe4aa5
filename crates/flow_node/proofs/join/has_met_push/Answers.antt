use Rattle.std.proofs.Common.{◌≡◌, Bool, true, false, not, refl, sym, ◌∙◌}
use Rattle.flow_item.specs.Lists.{is_empty}
use Rattle.flow_node.proofs.join.has_met_push.Goals as goal

free : (b : Bool) → not b ≡ false → b ≡ true
free true h = refl
free false h = cc

pub returns-then-not-is_held : goal.returns-then-not-is_held
returns-then-not-is_held c =
    let none : is_empty c.args.cast.now.cast.holds ≡ true = free _ (sym c.is_held.ensures ∙ c.if-not-is_held.true) in
    rw none c.has_met_each.ensures
