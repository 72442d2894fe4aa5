-- What a run of a determinate document promises of its results, on one thread or on several.
use Rattle.std.specs.Prelude.{◌≡◌, ℕ, ◌<◌, true, false, Some, List, slice_get}
use Rattle.flow_item.specs.declared.event.Event.{Event}
use Rattle.flow_item.specs.Lists.{has}
use Rattle.flow_shape.specs.declared.Kind.{Kind}
use Rattle.flow_shape.specs.Kinds.{inputs}
use Rattle.flow_machine.specs.Bodies.{Meanings}
use Rattle.flow_doc.specs.declared.Doc.{Doc}
use Rattle.flow_report.specs.Sinks.{sink_pairs}
use Rattle.flow_mean.specs.Maps.{map_of, has_repeat}
use Rattle.flow_mean.specs.Meaning.{arrives, meaning}
use Rattle.flow_mean.specs.Determinate.{IsDeterminate}
use Rattle.flow_determinacy.specs.Came.{came_to}

-- at this node: to each port came exactly what arrives there by the document's meaning, each tag once, and a sink keeps, in print order, what it means
pub record MeansAt (meanings : Meanings) (doc : Doc) (es : List Event) (n : ℕ) (k : Kind) : Type 0 where
  pub arrived : (port : ℕ) → port < inputs k → map_of (came_to n port es) ≡ arrives meanings doc n port
  pub once : (port : ℕ) → port < inputs k → has_repeat (came_to n port es) ≡ false
  pub kept : has doc.sinks n ≡ true → sink_pairs doc.shape es n ≡ meaning meanings doc n

-- so at each node, where the document is determinate
abbrev pub KeepsMeaning : Meanings → Doc → List Event → Type 0
KeepsMeaning meanings doc es = IsDeterminate meanings doc → (n : ℕ) (k : Kind) → slice_get doc.shape.nodes n ≡ Some k → MeansAt meanings doc es n k
