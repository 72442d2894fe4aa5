use Rattle.flow_body.specs.Shelves.{meanings_of_shelf}
use Rattle.flow_work.proofs.run.PlainRun.turn.Goals as goal

pub returns-in-Err-serve-clause-refused : goal.returns-in-Err-serve-clause-refused
returns-in-Err-serve-clause-refused g c = c.in-Err-serve.ensures.refused (meanings_of_shelf (λ n. (goal.Body-dyn g (n.body.vtable, n.body.value)).pure n.body.value) (λ n. (goal.Body-dyn g (n.body.vtable, n.body.value)).single n.body.value) (λ n. (goal.Body-dyn g (n.body.vtable, n.body.value)).out n.body.value) c.args.shelf.now.bodies.items)

pub returns-in-Err-send-clause-refused : goal.returns-in-Err-send-clause-refused
returns-in-Err-send-clause-refused g c = c.in-Err-send.ensures.refused (meanings_of_shelf (λ n. (goal.Body-dyn g (n.body.vtable, n.body.value)).pure n.body.value) (λ n. (goal.Body-dyn g (n.body.vtable, n.body.value)).single n.body.value) (λ n. (goal.Body-dyn g (n.body.vtable, n.body.value)).out n.body.value) c.args.shelf.now.bodies.items)

pub returns-in-Err-leave-clause-refused : goal.returns-in-Err-leave-clause-refused
returns-in-Err-leave-clause-refused g c = c.in-Err-leave.ensures.refused (meanings_of_shelf (λ n. (goal.Body-dyn g (n.body.vtable, n.body.value)).pure n.body.value) (λ n. (goal.Body-dyn g (n.body.vtable, n.body.value)).single n.body.value) (λ n. (goal.Body-dyn g (n.body.vtable, n.body.value)).out n.body.value) c.args.shelf.now.bodies.items)
