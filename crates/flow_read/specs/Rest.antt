-- The rest of a document's form, after its nodes, its edges and its callers.
use Rattle.std.specs.Prelude.{ℕ, nat_le, Result, Ok, List, [], ◌∷◌, length, codes}
use Rattle.serde_json.specs.Data.{Data}
use Rattle.flow_shape.specs.declared.Kind.{Kind}
use Rattle.flow_shape.specs.declared.Shape.{Shape}
use Rattle.flow_shape.specs.declared.Step.{Step}
use Rattle.flow_doc.specs.declared.Doc.{Doc}
use Rattle.flow_doc.specs.declared.Want.TheVariants as W
use Rattle.flow_doc.specs.declared.DocFault.{DocFault}
use Rattle.flow_doc.specs.Fields.{◌>>=◌, ◌▹◌, needs, demand, only, each, list_in}
use Rattle.flow_doc.specs.Reading.{edge_at, script_at, sink_at}

unfoldable pub after_scripts : ℕ → List (List ℕ) → Shape → List (List Step) → Data → Result Doc DocFault
after_scripts version names shape scripts d = do
  sink_items ← needs [] d (codes "sinks") W.List list_in
  sinks ← each (sink_at names shape) ([] ▹ codes "sinks") [] sink_items
  _ ← only [] (codes "version" ∷ codes "nodes" ∷ codes "edges" ∷ codes "callers" ∷ codes "sinks" ∷ []) d
  Ok record { version = version; names = names; shape = shape; scripts = scripts; sinks = sinks }

unfoldable pub after_edges : ℕ → List (List ℕ) → Shape → Data → Result Doc DocFault
after_edges version names shape d = do
  callers ← needs [] d (codes "callers") W.List list_in
  _ ← demand ([] ▹ codes "callers") W.Callers (nat_le (length callers) 64)
  scripts ← each (script_at names shape version) ([] ▹ codes "callers") [] callers
  after_scripts version names shape scripts d

unfoldable pub after_nodes : ℕ → List (List ℕ) → List Kind → Data → Result Doc DocFault
after_nodes version names kinds d = do
  edge_items ← needs [] d (codes "edges") W.List list_in
  edges ← each (edge_at names) ([] ▹ codes "edges") [] edge_items
  after_edges version names record { nodes = kinds; edges = edges } d
