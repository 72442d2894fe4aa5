use Rattle.flow_node.proofs.FunctionLemmas.{few-casts}
use Rattle.flow_node.proofs.part.Part.expect.Goals as goal

pub returns-in-Function-clause-few : goal.returns-in-Function-clause-few
returns-in-Function-clause-few c = few-casts c.expect.result c.expect.new.self.coming c.args.base.now.node c.args.number c.args.outs.now c.expect.ensures.ok c.expect.ensures.err
