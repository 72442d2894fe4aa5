use Rattle.std.proofs.Common.{◌∙◌, ap, sym, get_or, []}
use Rattle.flow_body.specs.Shelves.{meanings_of_shelf}
use Rattle.flow_mean.specs.Maps.{run_from, past_run}
use Rattle.flow_mean.proofs.ByKind.{passed-run, kept-run, kept-none}
use Rattle.flow_mean.proofs.passes.pass.Goals as goal

pub pass_all-requires-clause-unsorted : goal.pass_all-requires-clause-unsorted
pass_all-requires-clause-unsorted g c = sym c.is_sequencer.ensures ∙ c.if-is_sequencer.false

pub returns-then-is_sequencer-clause-passed : goal.returns-then-is_sequencer-clause-passed
returns-then-is_sequencer-clause-passed g c =
    let meanings = meanings_of_shelf (λ n. (goal.Body-dyn g (n.body.vtable, n.body.value)).pure n.body.value) (λ n. (goal.Body-dyn g (n.body.vtable, n.body.value)).single n.body.value) (λ n. (goal.Body-dyn g (n.body.vtable, n.body.value)).out n.body.value) c.args.shelf.now.bodies.items in
    c.in_ok-passing.ensures.passed ∙ ap (run_from 0) c.first.ensures ∙ passed-run meanings c.args.kind.now (λ port. get_or c.args.maps.items port []) (sym c.is_sequencer.ensures ∙ c.if-is_sequencer.true)

pub returns-then-is_sequencer-clause-kept : goal.returns-then-is_sequencer-clause-kept
returns-then-is_sequencer-clause-kept g c = c.in_ok-passing.ensures.kept ∙ ap (past_run 0) c.first.ensures ∙ kept-run c.args.kind.now (get_or c.args.maps.items 0 []) (sym c.is_sequencer.ensures ∙ c.if-is_sequencer.true)

pub returns-clause-kept : goal.returns-clause-kept
returns-clause-kept g c = c.new.ensures ∙ kept-none c.args.kind.now (get_or c.args.maps.items 0 []) (sym c.is_sequencer.ensures ∙ c.if-is_sequencer.false)
