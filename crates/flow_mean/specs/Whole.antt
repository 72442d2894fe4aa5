-- What is known once each node was looked at.
use Rattle.std.specs.Prelude.{◌≡◌, ℕ, ◌<◌, true, ◌&&◌, if◌then◌else◌, Result, Ok, Err, [], length, get_or, slice_get, ⊤}
use Rattle.flow_item.specs.Lists.{has}
use Rattle.flow_shape.specs.Wiring.{at_node, is_some_and}
use Rattle.flow_machine.specs.Bodies.{Meanings}
use Rattle.flow_doc.specs.declared.Doc.{Doc}
use Rattle.flow_mean.specs.declared.flow.Flow.{Flow}
use Rattle.flow_mean.specs.declared.judge.Meant.{Meant}
use Rattle.flow_mean.specs.declared.MeanFault.{MeanFault}
use Rattle.flow_mean.specs.declared.MeanFault.TheVariants as M
use Rattle.flow_mean.specs.Determinate.{determinate, IsDeterminate}
use Rattle.flow_mean.specs.Maps.{TagMap}
use Rattle.flow_mean.specs.Meaning.{is_sequencer, passes_of, kept_at}
use Rattle.flow_mean.specs.Judging.{AreRepeats}

pub record IsWhole (meanings : Meanings) (doc : Doc) (flow : Flow) : Type 0 where
  pub passed_size : length flow.passed.items ≡ length doc.shape.nodes
  pub kept_size : length flow.kept.items ≡ length doc.shape.nodes
  pub passes : (n : ℕ) → n < length doc.shape.nodes → get_or flow.passed.items n [] ≡ passes_of meanings doc n
  pub keeps : (n : ℕ) → n < length doc.shape.nodes → at_node doc.shape n is_sequencer ≡ true → get_or flow.kept.items n [] ≡ kept_at meanings doc n
  pub tells : AreRepeats meanings doc flow.repeats.items

-- what the document means, or the fault that is wanted, unless memory ran out
abbrev pub Finds : Meanings → Doc → Result Meant MeanFault → Type 0
Finds meanings doc (Ok m) = IsDeterminate meanings doc × IsWhole meanings doc m.flow
Finds meanings doc (Err (M.Loose f)) = determinate meanings doc ≡ Err f
Finds meanings doc (Err M.Memory) = ⊤

-- what is shown of a node
abbrev pub meant_at : Doc → Meant → ℕ → TagMap
meant_at doc meant n = if has doc.sinks n && is_some_and is_sequencer (slice_get doc.shape.nodes n) then get_or meant.flow.kept.items n [] else get_or meant.flow.passed.items n []
