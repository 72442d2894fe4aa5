use Rattle.flow_pool.proofs.Keeping.{starts}
use Rattle.flow_pool.proofs.entrance.open_entrance.Goals as goal

pub new_as-requires : goal.new_as-requires
new_as-requires c = starts
