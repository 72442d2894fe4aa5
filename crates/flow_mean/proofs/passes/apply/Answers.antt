use Rattle.std.proofs.Common.{◌∙◌}
use Rattle.flow_mean.proofs.Bodies.{pure-function, passed-function}
use Rattle.flow_mean.proofs.passes.apply.Goals as goal

pub answers-requires : goal.answers-requires
answers-requires g c = pure-function (λ n. (n.body.vtable, n.body.value)) (λ v. (goal.Body-dyn g v).pure v.1) (λ v. (goal.Body-dyn g v).single v.1) (λ v. (goal.Body-dyn g v).out v.1) c.args.shelf.now.bodies.items c.args.kind.now c.in-Function.reject c.in-Function.limit c.in-Function.body c.in-Function.arg c.in-Some.body.now c.requires.fits c.in-Function.is c.in-Some.ensures c.requires.tied

pub returns : goal.returns
returns g c = c.in_ok-passed-in-Some.ensures ∙ passed-function (λ n. (n.body.vtable, n.body.value)) (λ v. (goal.Body-dyn g v).pure v.1) (λ v. (goal.Body-dyn g v).single v.1) (λ v. (goal.Body-dyn g v).out v.1) c.args.shelf.now.bodies.items c.args.kind.now c.in-Function.reject c.in-Function.limit c.in-Function.body c.in-Function.arg c.in-Some.body.now c.requires.fits c.in-Function.is c.in-Some.ensures c.in_ok-pairs-in-Some.pairs c.args.map c.in_ok-pairs-in-Some.ensures
