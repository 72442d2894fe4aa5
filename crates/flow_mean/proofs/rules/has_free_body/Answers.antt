use Rattle.std.proofs.Common.{◌≡◌, not, ◌&&◌, ◌∙◌}
use Rattle.flow_mean.proofs.Bodies.{free-function}
use Rattle.flow_mean.proofs.rules.has_free_body.Goals as goal

pub returns-in-Some : goal.returns-in-Some
returns-in-Some g c = λ doc n.
    c.is_free.ensures ∙ (λ i. not (c.is_pure.ensures i && c.is_single.ensures i))
    ∙ free-function (λ n. (n.body.vtable, n.body.value)) (λ v. (goal.Body-dyn g v).pure v.1) (λ v. (goal.Body-dyn g v).single v.1) (λ v. (goal.Body-dyn g v).out v.1) c.args.shelf.now.bodies.items c.args.kind.now c.in-Function.reject c.in-Function.limit c.in-Function.body c.in-Function.arg c.in-Some.body.now c.requires c.in-Function.is c.in-Some.ensures doc n
