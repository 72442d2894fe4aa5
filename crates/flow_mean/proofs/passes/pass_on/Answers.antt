use Rattle.std.proofs.Common.{◌∙◌, ap, sym, cond, get_or, []}
use Rattle.flow_body.specs.Shelves.{meanings_of_shelf}
use Rattle.flow_mean.specs.Meaning.{passed_by}
use Rattle.flow_mean.specs.Passing.{kept_by}
use Rattle.flow_mean.proofs.passes.pass_on.Goals as goal

pub returns-then-ends-clause-passed : goal.returns-then-ends-clause-passed
returns-then-ends-clause-passed g c =
    let meanings = meanings_of_shelf (λ n. (goal.Body-dyn g (n.body.vtable, n.body.value)).pure n.body.value) (λ n. (goal.Body-dyn g (n.body.vtable, n.body.value)).single n.body.value) (λ n. (goal.Body-dyn g (n.body.vtable, n.body.value)).out n.body.value) c.args.shelf.now.bodies.items in
    c.keep.ensures.passed ∙ sym (ap (λ b. cond b [] (passed_by meanings c.args.kind.now (λ port. get_or c.args.maps.items port []))) c.if-ends.true)

pub returns-then-ends-clause-kept : goal.returns-then-ends-clause-kept
returns-then-ends-clause-kept g c = c.keep.ensures.kept ∙ sym (ap (λ b. cond b (get_or c.args.maps.items 0 []) (kept_by c.args.kind.now (get_or c.args.maps.items 0 []))) c.if-ends.true)

pub returns-clause-passed : goal.returns-clause-passed
returns-clause-passed g c =
    let meanings = meanings_of_shelf (λ n. (goal.Body-dyn g (n.body.vtable, n.body.value)).pure n.body.value) (λ n. (goal.Body-dyn g (n.body.vtable, n.body.value)).single n.body.value) (λ n. (goal.Body-dyn g (n.body.vtable, n.body.value)).out n.body.value) c.args.shelf.now.bodies.items in
    c.in_ok-passing.ensures.passed ∙ sym (ap (λ b. cond b [] (passed_by meanings c.args.kind.now (λ port. get_or c.args.maps.items port []))) c.if-ends.false)

pub returns-clause-kept : goal.returns-clause-kept
returns-clause-kept g c = c.in_ok-passing.ensures.kept ∙ sym (ap (λ b. cond b (get_or c.args.maps.items 0 []) (kept_by c.args.kind.now (get_or c.args.maps.items 0 []))) c.if-ends.false)
