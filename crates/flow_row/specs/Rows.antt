-- Two queues in a row, on which books are tried.
use Rattle.std.specs.Prelude.{◌≡◌, true, Option, None, [], ◌∷◌}
use Rattle.std.specs.Coded.{Coded-set, codes}
use Rattle.flow_item.specs.contracts.val.Val as val
use Rattle.flow_item.specs.declared.event.Event.{Event}
use Rattle.flow_shape.specs.declared.Shape.{Shape}
use Rattle.flow_shape.specs.declared.Kind.TheVariants as K
use Rattle.flow_line.specs.declared.view.About.{About}
use Rattle.flow_line.specs.Values.{Sitting}
use Rattle.flow_book.specs.declared.machine.Run.{Run}
use Rattle.flow_book.specs.Answers.{about_of}
use Rattle.flow_book.specs.Callers.{may_call, is_idle_worker}

-- an edge from the one queue to the other
abbrev pub row_shape : Shape
row_shape = record { nodes = K.Queue None ∷ K.Queue None ∷ []; edges = record { from = 0; out = 0; to = 1; port = 0 } ∷ [] }

-- five callers and five workers
abbrev pub row_run : Run
row_run = record { shape = row_shape; callers = 5; workers = 5 }

abbrev pub row_about : Option (About Run)
row_about = about_of row_run 1000000000 1000000000

-- a chair of the row
abbrev pub IsOfRow : Sitting Event Run → Type 0
IsOfRow c = c.about ≡ row_about

-- a caller of the row, which hasn't left
abbrev pub IsCaller : Sitting Event Run → Type 0
IsCaller c = IsOfRow c × (may_call row_run c ≡ true)

-- a worker of the row, which is idle
abbrev pub IsWorker : Sitting Event Run → Type 0
IsWorker w = IsOfRow w × (is_idle_worker w ≡ true)

-- an equation of runs, or of what chairs are about, is a proposition
pub run_prop : (run : Run) → IsProp (run ≡ row_run)
run_prop run = Coded-set (hlevel (codes, val.the_row.coded)) run row_run

pub about_prop : (about : Option (About Run)) → IsProp (about ≡ row_about)
about_prop about = Coded-set (hlevel (codes, val.the_row.coded)) about row_about
