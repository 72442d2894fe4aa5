use Rattle.std.proofs.Common.{◌+◌, ◌*◌, ◌≤◌, List, Bool, length, ap, ◌∙◌, subst, arith}
use Rattle.flow_nodes.specs.DueSets.{least_of, IsFirst}
use Rattle.flow_nodes.proofs.DueLemmas.{found-least, none-least}
use Rattle.flow_nodes.proofs.due.DueSet.least.Goals as goal

pub returns-in-Some : goal.returns-in-Some
returns-in-Some c =
    let b = c.loop-block.block in
    let first = subst (λ (flags : List Bool). IsFirst flags (32 * b) (32 * b + 32) c.in-Some.at) c.deref.ensures.value c.in-Some.ensures in
    found-least c.self.inside.flags.items b c.in-Some.at c.loop-block.invariant first ∙ ap (least_of 0) c.self.view_is

pub returns : goal.returns
returns c =
    let past : length c.self.inside.marks.items ≤ c.loop-block.block = let end = c.loop-block-test.false in let is = c.len-block-end.ensures in let ok = c.self.inside.marks.ok.0 in omega arith in
    none-least c.self.inside.flags.items c.self.inside.marks.items c.loop-block.block c.self.invariant past c.loop-block.invariant ∙ ap (least_of 0) c.self.view_is
