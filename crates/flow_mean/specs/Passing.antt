-- What stands while the meaning is found node by node, along an order in which each edge goes forwards.
use Rattle.std.specs.Prelude.{◌≡◌, ℕ, suc, ◌+◌, ◌*◌, ◌<◌, ◌≤◌, Bool, true, false, ◌&&◌, if◌then◌else◌, nat_eq, Some, Option, None, option_map, List, [], ◌∷◌, ◌++◌, length, map, get_or, slice_get, ⊤}
use Rattle.std.specs.List.{flat_map, list_any, range_with_len}
use Rattle.std.specs.Option.{option_to_list}
use Rattle.flow_item.specs.Values.{list_of}
use Rattle.flow_item.specs.Lists.{has}
use Rattle.flow_item.specs.declared.val.Val.{Val}
use Rattle.flow_item.specs.Pairs.{Pair}
use Rattle.flow_shape.specs.declared.Kind.{Kind}
use Rattle.flow_shape.specs.declared.Edge.{Edge}
use Rattle.flow_shape.specs.declared.Shape.{Shape}
use Rattle.flow_shape.specs.Wiring.{at_node, edges_into}
use Rattle.flow_machine.specs.Bodies.{Meanings}
use Rattle.flow_doc.specs.declared.Doc.{Doc}
use Rattle.flow_mean.specs.Maps.{TagMap, map_of, past_run, has_repeat, values_at}
use Rattle.flow_mean.specs.Meaning.{put_to, is_sequencer, passed_by, passes_of, kept_at}
use Rattle.flow_mean.specs.Determinate.{repeats_tag}
use Rattle.flow_mean.specs.Judging.{early}

-- the pairs that callers put to each port, eight places for each node
abbrev pub ArePuts : Doc → List (List Pair) → Type 0
ArePuts doc puts = (length puts ≡ length doc.shape.nodes * 8) × ((n port : ℕ) → n < length doc.shape.nodes → port < 8 → get_or puts (n * 8 + port) [] ≡ flat_map (flat_map (put_to n port)) doc.scripts)

-- the from-nodes of the edges into each port
abbrev pub AreSources : Shape → List (List ℕ) → Type 0
AreSources shape sources = (length sources ≡ length shape.nodes * 8) × ((n port : ℕ) → n < length shape.nodes → port < 8 → get_or sources (n * 8 + port) [] ≡ map (λ (e : Edge). e.from) (edges_into shape n port))

-- what is brought to a place: what callers put there, and then what its sources pass
abbrev pub brought : List (List Pair) → List (List ℕ) → List TagMap → ℕ → List Pair
brought puts sources passed place = get_or puts place [] ++ flat_map (λ s. get_or passed s []) (get_or sources place [])

-- and to the ports of a node
abbrev pub brought_to : List (List Pair) → List (List ℕ) → List TagMap → ℕ → ℕ → List Pair
brought_to puts sources passed node port = brought puts sources passed (node * 8 + port)

abbrev pub maps_at : (ℕ → List Pair) → ℕ → List TagMap
maps_at at ports = map (λ port. map_of (at port)) (range_with_len 0 ports)

abbrev pub repeats_at : (ℕ → List Pair) → ℕ → Bool
repeats_at at ports = list_any (λ port. has_repeat (at port)) (range_with_len 0 ports)

-- what a node keeps, where it has edges out
abbrev pub kept_by : Kind → TagMap → TagMap
kept_by k m = if is_sequencer k then past_run 0 m else []

-- the from-node of an edge into the port
abbrev pub source_of : ℕ → ℕ → Edge → List ℕ
source_of n port e = if nat_eq e.to n && nat_eq e.port port then e.from ∷ [] else []

-- each tag is above those before it
abbrev pub Above : ℕ → TagMap → Type 0
Above b [] = ⊤
Above b (p ∷ ps) = (b ≤ p.0) × Above (suc p.0) ps

pub record Rising (m : TagMap) : Type 0 where
  pub rises : Above 0 m

-- the tuple of a tag, where each map has it
abbrev pub tuples_of : List TagMap → ℕ → List Pair
tuples_of ms tag = option_to_list (option_map (λ vs. (tag, list_of vs)) (values_at tag ms))

-- a place for each node, and eight for each in the puts
pub record HasSizes (doc : Doc) (passed kept puts : List (List Pair)) (repeats : List Bool) : Type 0 where
  pub passed_size : length passed ≡ length doc.shape.nodes
  pub kept_size : length kept ≡ length doc.shape.nodes
  pub repeats_size : length repeats ≡ length doc.shape.nodes
  pub puts_size : length puts ≡ length doc.shape.nodes * 8

-- what the nodes pass that were looked at, and what callers put to the others
pub record Knows (meanings : Meanings) (doc : Doc) (done : List ℕ) (passed puts : List (List Pair)) : Type 0 where
  pub passes : (n : ℕ) → n < length doc.shape.nodes → has done n ≡ true → get_or passed n [] ≡ passes_of meanings doc n
  pub left : (n port : ℕ) → n < length doc.shape.nodes → port < 8 → has done n ≡ false → get_or puts (n * 8 + port) [] ≡ flat_map (flat_map (put_to n port)) doc.scripts

-- and what they keep, and at which of them a tag comes twice
pub record Passes (meanings : Meanings) (doc : Doc) (done : List ℕ) (passed kept puts : List (List Pair)) (repeats : List Bool) : Type 0 where
  pub known : Knows meanings doc done passed puts
  pub keeps : (n : ℕ) → n < length doc.shape.nodes → has done n ≡ true → at_node doc.shape n is_sequencer ≡ true → get_or kept n [] ≡ kept_at meanings doc n
  pub tells : (n : ℕ) (k : Kind) → slice_get doc.shape.nodes n ≡ Some k → has done n ≡ true → get_or repeats n false ≡ repeats_tag meanings doc n k

-- what is found of a node
pub record IsFound (meanings : Meanings) (doc : Doc) (node : ℕ) (p q : List Pair) (r : Bool) : Type 0 where
  pub passes : p ≡ passes_of meanings doc node
  pub keeps : at_node doc.shape node is_sequencer ≡ true → q ≡ kept_at meanings doc node
  pub tells : (k : Kind) → slice_get doc.shape.nodes node ≡ Some k → r ≡ repeats_tag meanings doc node k

-- each edge into the node comes from one of these
abbrev pub Awaits : Shape → List ℕ → ℕ → Type 0
Awaits shape done node = (x : ℕ) (e : Edge) → slice_get shape.edges x ≡ Some e → e.to ≡ node → has done e.from ≡ true

-- no rule fails that looks at no tag
abbrev pub IsTidy : Meanings → Doc → Type 0
IsTidy meanings doc = early meanings doc ≡ None

-- with these values before
abbrev pub prefixed : List Val → Option (List Val) → Option (List Val)
prefixed vs o = option_map (λ ws. vs ++ ws) o

-- the from-nodes of the edges into each port, edge by edge
abbrev pub HasSources : Shape → List (List ℕ) → Type 0
HasSources shape sources = (length sources ≡ length shape.nodes * 8) × ((n port : ℕ) → n < length shape.nodes → port < 8 → get_or sources (n * 8 + port) [] ≡ flat_map (source_of n port) shape.edges)
