use Rattle.std.proofs.Common.{◌≡◌, Some, ap, ◌∙◌, sym}
use Rattle.std.specs.Option.{option_copied}
use Rattle.flow_machine.specs.Offers.{candidates}
use Rattle.flow_item.specs.Lists.{first}
use Rattle.flow_tests_parts.proofs.TestLemmas.{first-gives}
use Rattle.flow_tests_parts.proofs.node.give.Goals as goal

pub apply_from-requires-clause-allowed : goal.apply_from-requires-clause-allowed
apply_from-requires-clause-allowed g c =
    let v = c.args.node.now.node in
    let i = c.copied-item.result in
    let first_is : Some c.in-Some.item.now ≡ first (candidates v.place v.state c.args.link.edge) = sym (ap option_copied c.in-Some.is) ∙ c.candidate_item.ensures in
    let offered : Some i ≡ first (candidates v.place v.state c.args.link.edge) = ap Some c.copied-item.ensures ∙ first_is in
    let from : c.args.link.from ≡ v.place.node = c.requires.from ∙ sym c.requires.number in
    rw (c.prepare.ensures.same) (first-gives v.place v.state c.args.link i 0 _ from c.requires.wired offered)
