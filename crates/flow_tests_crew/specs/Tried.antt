-- The documents on which graphs are tried, and who works on them.
use Rattle.std.specs.Prelude.{ℕ, ◌≡◌, Bool, true, ◌&&◌, List, [], ◌∷◌}
use Rattle.std.specs.List.{list_all}
use Rattle.flow_shape.specs.declared.Kind.{Kind}
use Rattle.flow_shape.specs.declared.Step.{Step}
use Rattle.flow_doc.specs.declared.Doc.{Doc}
use Rattle.flow_doc.specs.Fits.{doc_fits}
use Rattle.flow_machine.specs.Bodies.{Meanings}
use Rattle.flow_line.specs.Values.{Sitting}
use Rattle.flow_item.specs.declared.event.Event.{Event}
use Rattle.flow_node.specs.Built.{is_built}
use Rattle.flow_pool.specs.declared.pool.Pool.{Pool}
use Rattle.flow_pool.specs.declared.post.Post.{Post}
use Rattle.flow_pool.specs.Posts.{IsPostOf}
use Rattle.flow_book.specs.declared.machine.Run.{Run}
use Rattle.flow_book.specs.Callers.{may_call, takes_puts}
use Rattle.flow_crew.specs.Crew.{IsCaller, IsWorker}

-- a node alone under this name, and these scripts
abbrev pub one_node : Kind → List ℕ → List (List Step) → Doc
one_node k name scripts = record { version = 1; names = name ∷ []; shape = record { nodes = k ∷ []; edges = [] }; scripts = scripts; sinks = [] }

-- whether the built-in bodies can run the document, there is code for its node, and callers may put to it
abbrev pub is_tried : Kind → List (List Step) → Bool
is_tried k scripts =
    let doc = one_node k [] scripts in
    (doc_fits 10 doc && list_all is_built doc.shape.nodes) && takes_puts doc.shape 0 0

-- a worker of the graph, with its post
pub record MayWork (m : Meanings) (run : Run) (items events : ℕ) (pool : Pool) (worker : Sitting Event Run) (busy : Bool) (post : Post) : Type 0 where
  pub of : IsWorker m run items events worker busy
  pub place : IsPostOf pool post

-- a caller of the graph that hasn't left, and the worker under whose chair it waits
pub record MayCall (m : Meanings) (run : Run) (items events : ℕ) (pool : Pool) (caller worker : Sitting Event Run) (busy : Bool) (post : Post) : Type 0 where
  pub of : IsCaller m run items events caller
  pub calls : may_call run caller ≡ true
  pub waits : MayWork m run items events pool worker busy post
