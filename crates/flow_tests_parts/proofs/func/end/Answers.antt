use Rattle.flow_machine.specs.Enabled.{is_numbered}
use Rattle.flow_tests_parts.proofs.TestLemmas.{some-found}
use Rattle.flow_tests_parts.proofs.func.end.Goals as goal

pub end-requires : goal.end-requires
end-requires c = some-found (is_numbered c.args.no) c.args.func.now.body.running c.is_none.result c.running_item.result c.is_none.ensures c.if-is_none.false c.running_item.ensures
