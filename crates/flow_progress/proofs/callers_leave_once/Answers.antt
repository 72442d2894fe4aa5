use Rattle.flow_progress.proofs.Leaving.{callers-leave-once}
use Rattle.flow_progress.proofs.callers_leave_once.Goals as goal

pub returns : goal.returns
returns c = callers-leave-once
