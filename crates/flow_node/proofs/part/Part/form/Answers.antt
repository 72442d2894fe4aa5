use Rattle.std.proofs.Common.{◌≡◌, true}
use Rattle.std.specs.Prelude.{is_some}
use Rattle.flow_node.specs.Joins.{tuple_in}
use Rattle.flow_node.proofs.JoinLemmas.{tuple-ready}
use Rattle.flow_node.proofs.JoinSteps.{join-formed}
use Rattle.flow_node.proofs.part.Part.form.Goals as goal

pub form-requires-clause-ready : goal.form-requires-clause-ready
form-requires-clause-ready c =
    let some : is_some (tuple_in c.in-Join.join) ≡ true = rw (c.in-Join.is) at c.requires.some in
    tuple-ready c.in-Join.join some

pub returns : goal.returns
returns c =
    let some : is_some (tuple_in c.in-Join.join) ≡ true = rw (c.in-Join.is) at c.requires.some in
    let room = rw (c.in-Join.is) at c.requires.room in
    rw (c.in-Join.is) (join-formed c.args.base.now c.in-Join.join c.form.new.self c.args.no some room c.form.ensures.ports c.form.ensures.rule c.form.ensures.slot c.form.ensures.room)
