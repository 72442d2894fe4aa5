use Rattle.std.proofs.Common.{◌≡◌, Option, Some, None, sym, ◌∙◌}
use Rattle.flow_body.specs.Shelves.{meanings_of_shelf}
use Rattle.flow_mean.specs.declared.Loose.{Loose}
use Rattle.flow_mean.specs.Judging.{late}
use Rattle.flow_mean.proofs.Grouped.{judges-late}
use Rattle.flow_mean.proofs.judge.settled.Goals as goal

pub returns-in-Some : goal.returns-in-Some
returns-in-Some g c =
    let meanings = meanings_of_shelf (λ n. (goal.Body-dyn g (n.body.vtable, n.body.value)).pure n.body.value) (λ n. (goal.Body-dyn g (n.body.vtable, n.body.value)).single n.body.value) (λ n. (goal.Body-dyn g (n.body.vtable, n.body.value)).out n.body.value) c.args.shelf.now.bodies.items in
    let found : Some c.in-Some.loose ≡ late meanings c.args.doc.now = sym c.in-Some.is ∙ c.in_ok-loose.ensures in
    judges-late meanings c.args.doc.now (Some c.in-Some.loose) (sym c.requires.tidy) found

pub returns-in-None : goal.returns-in-None
returns-in-None g c =
    let meanings = meanings_of_shelf (λ n. (goal.Body-dyn g (n.body.vtable, n.body.value)).pure n.body.value) (λ n. (goal.Body-dyn g (n.body.vtable, n.body.value)).single n.body.value) (λ n. (goal.Body-dyn g (n.body.vtable, n.body.value)).out n.body.value) c.args.shelf.now.bodies.items in
    let none : Option Loose = None in
    let found : none ≡ late meanings c.args.doc.now = sym c.in-None.is ∙ c.in_ok-loose.ensures in
    (judges-late meanings c.args.doc.now none (sym c.requires.tidy) found, c.in_ok-flow.ensures)
