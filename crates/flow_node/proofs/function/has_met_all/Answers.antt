use Rattle.std.proofs.Common.{◌≡◌, Bool, true, false, not, refl, sym, ◌∙◌}
use Rattle.flow_item.specs.Lists.{is_empty}
use Rattle.flow_machine.specs.Offers.{all_in}
use Rattle.flow_node.specs.Parts.{edges_over}
use Rattle.flow_node.proofs.CastLemmas.{over-met}
use Rattle.flow_node.proofs.function.has_met_all.Goals as goal

free : (b : Bool) → not b ≡ false → b ≡ true
free true h = refl
free false h = cc

pub returns-then-not-is_held : goal.returns-then-not-is_held
returns-then-not-is_held c =
    let cast = c.args.cast.now.cast in
    let here = c.has_met_over.ensures ∙ over-met c.args.outs.now c.port.result cast.met in
    let met : c.has_met_over.result ≡ all_in (edges_over c.args.outs.now cast.port) cast.met = rw (c.port.ensures) at here in
    let none : is_empty cast.holds ≡ true = free (is_empty cast.holds) (sym c.is_held.ensures ∙ c.if-not-is_held.true) in
    rw none met
