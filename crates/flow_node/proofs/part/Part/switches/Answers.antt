use Rattle.std.proofs.Common.{not, sym, ap}
use Rattle.flow_node.proofs.JoinLemmas.{join-switches}
use Rattle.flow_node.proofs.part.Part.switches.Goals as goal

pub returns-in-Join : goal.returns-in-Join
returns-in-Join c = rw (c.in-Join.is) (sym (ap not (join-switches c.in-Join.field-0.inputs)))
