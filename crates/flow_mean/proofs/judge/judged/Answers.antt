use Rattle.std.proofs.Common.{◌≡◌, Some, None, sym, ◌∙◌}
use Rattle.flow_body.specs.Shelves.{meanings_of_shelf}
use Rattle.flow_mean.specs.Judging.{early}
use Rattle.flow_mean.proofs.Grouped.{fits-valid, fits-kinds, judges-early}
use Rattle.flow_mean.proofs.judge.judged.Goals as goal

pub early-requires-clause-valid : goal.early-requires-clause-valid
early-requires-clause-valid g c = fits-valid _ c.args.doc.now c.requires

pub early-requires-clause-kinds : goal.early-requires-clause-kinds
early-requires-clause-kinds g c = fits-kinds _ c.args.doc.now c.requires

pub settled-requires-clause-valid : goal.settled-requires-clause-valid
settled-requires-clause-valid g c = fits-valid _ c.args.doc.now c.requires

pub settled-requires-clause-kinds : goal.settled-requires-clause-kinds
settled-requires-clause-kinds g c = fits-kinds _ c.args.doc.now c.requires

pub returns-in-Some : goal.returns-in-Some
returns-in-Some g c =
    let meanings = meanings_of_shelf (λ n. (goal.Body-dyn g (n.body.vtable, n.body.value)).pure n.body.value) (λ n. (goal.Body-dyn g (n.body.vtable, n.body.value)).single n.body.value) (λ n. (goal.Body-dyn g (n.body.vtable, n.body.value)).out n.body.value) c.args.shelf.now.bodies.items in
    let found : Some c.in-Some.loose ≡ early meanings c.args.doc.now = sym c.in-Some.is ∙ c.in_ok-loose.ensures in
    judges-early meanings c.args.doc.now c.in-Some.loose found
