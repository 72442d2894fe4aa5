use Rattle.std.proofs.Common.{◌≡◌, drop}
use Rattle.std.specs.List.{list_any}
use Rattle.flow_mean.specs.Determinate.{is_cancel}
use Rattle.flow_mean.proofs.tables.has_cancel.Given as goal

abbrev pub invariant-loop-script : goal.invariant-loop-script
invariant-loop-script l = list_any (list_any is_cancel) (drop l.script-index l.doc.scripts) ≡ list_any (list_any is_cancel) l.doc.scripts
