use Rattle.std.proofs.Common.{◌≡◌, ◌<◌, length, [], ◌∙◌, rules}
use Rattle.flow_mean.proofs.Reversed.{first-read, first-none}
use Rattle.flow_mean.proofs.passes.first.Goals as goal

pub returns : goal.returns
returns c =
    let some : 0 < length c.args.maps.items = search rules in
    first-read c.args.maps.items c.remove.result [] some c.remove.ensures.value

pub returns-then-len-eq0 : goal.returns-then-len-eq0
returns-then-len-eq0 c =
    let none : length c.args.maps.items ≡ 0 = search rules in
    c.new.ensures ∙ first-none c.args.maps.items [] none
