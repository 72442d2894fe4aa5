use Rattle.std.proofs.Common.{◌≡◌, ◌<◌, ℕ, length, arith, ◌∙◌}
use Rattle.flow_body.specs.Shelves.{meanings_of_shelf}
use Rattle.flow_mean.proofs.Grouped.{fits-valid, fits-kinds, determinate-tidy}
use Rattle.flow_mean.proofs.Walked.{meaning-of}
use Rattle.flow_mean.proofs.judge.meaning.Goals as goal

pub flow_of-requires-clause-valid : goal.flow_of-requires-clause-valid
flow_of-requires-clause-valid g c = fits-valid (length c.args.shelf.now.bodies.items) c.args.doc.now c.requires.fits

pub flow_of-requires-clause-kinds : goal.flow_of-requires-clause-kinds
flow_of-requires-clause-kinds g c = fits-kinds (length c.args.shelf.now.bodies.items) c.args.doc.now c.requires.fits

pub flow_of-requires-clause-tidy : goal.flow_of-requires-clause-tidy
flow_of-requires-clause-tidy g c =
    let meanings = meanings_of_shelf (λ n. (goal.Body-dyn g (n.body.vtable, n.body.value)).pure n.body.value) (λ n. (goal.Body-dyn g (n.body.vtable, n.body.value)).single n.body.value) (λ n. (goal.Body-dyn g (n.body.vtable, n.body.value)).out n.body.value) c.args.shelf.now.bodies.items in
    determinate-tidy meanings c.args.doc.now c.requires.determinate

pub take_pairs-requires-clause-passed : goal.take_pairs-requires-clause-passed
take_pairs-requires-clause-passed g c = omega (arith, c.requires.within, c.in_ok-flow.ensures.passed_size)

pub take_pairs-requires-clause-kept : goal.take_pairs-requires-clause-kept
take_pairs-requires-clause-kept g c = omega (arith, c.requires.within, c.in_ok-flow.ensures.kept_size)

pub returns : goal.returns
returns g c =
    let meanings = meanings_of_shelf (λ n. (goal.Body-dyn g (n.body.vtable, n.body.value)).pure n.body.value) (λ n. (goal.Body-dyn g (n.body.vtable, n.body.value)).single n.body.value) (λ n. (goal.Body-dyn g (n.body.vtable, n.body.value)).out n.body.value) c.args.shelf.now.bodies.items in
    c.of.ensures ∙ meaning-of meanings c.args.doc.now c.in_ok-flow.flow c.args.node c.is_shown-shown.result c.take_pairs.result c.in_ok-flow.ensures c.requires.within c.is_shown-shown.ensures c.take_pairs.ensures
