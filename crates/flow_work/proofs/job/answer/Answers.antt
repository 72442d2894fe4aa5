use Rattle.flow_work.proofs.FinishLemmas.{answers-function}
use Rattle.flow_work.proofs.job.answer.Goals as goal

pub returns : goal.returns
returns g c = answers-function (λ n. (n.body.vtable, n.body.value)) (λ v. (goal.Body-dyn g v).pure v.1) (λ v. (goal.Body-dyn g v).single v.1) (λ v. (goal.Body-dyn g v).out v.1) c.args.shelf.now.bodies.items c.args.kind.now c.in-Function.reject c.in-Function.limit c.in-Function.body c.in-Some.body.now c.in-Function.arg c.args.item.now c.in_ok-outs-in-Some.outs c.requires.fits c.in-Function.is c.in-Some.ensures c.in_ok-outs-in-Some.ensures
