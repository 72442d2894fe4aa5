-- What a judgement of a document answers, and the tables that it reads.
use Rattle.std.specs.Prelude.{◌≡◌, ℕ, suc, ◌<◌, Bool, false, not, ◌&&◌, if◌then◌else◌, nat_eq, Option, Some, None, Result, Ok, Err, List, [], ◌∷◌, length, get_or, slice_get, ⊤}
use Rattle.std.specs.List.{list_any}
use Rattle.flow_item.specs.Lists.{first, has}
use Rattle.flow_shape.specs.declared.Kind.{Kind}
use Rattle.flow_shape.specs.declared.Kind.TheVariants as K
use Rattle.flow_shape.specs.declared.Edge.{Edge}
use Rattle.flow_shape.specs.declared.Shape.{Shape}
use Rattle.flow_shape.specs.Kinds.{is_single_push}
use Rattle.flow_shape.specs.Wiring.{edges_leaving}
use Rattle.flow_machine.specs.Bodies.{Meanings}
use Rattle.flow_doc.specs.declared.Doc.{Doc}
use Rattle.flow_mean.specs.declared.LooseRule.{LooseRule}
use Rattle.flow_mean.specs.declared.LooseRule.TheVariants.{N1, N2, N3, N4, N5, N6, N7, N8}
use Rattle.flow_mean.specs.declared.Loose.{Loose}
use Rattle.flow_mean.specs.declared.MeanFault.{MeanFault}
use Rattle.flow_mean.specs.declared.MeanFault.TheVariants as M
use Rattle.flow_mean.specs.Meaning.{is_sequencer}
use Rattle.flow_mean.specs.Determinate.{is_orderly, is_function, is_cancel, is_put_to, comes_unasked, is_on_cycle, nodes_where, has_several_out_edges, may_lose, has_loose_body, repeats_tag}

-- the answer is the one that is wanted, unless memory ran out
abbrev pub Judges : Result ⊤ Loose → Result ⊤ MeanFault → Type 0
Judges wanted (Ok x) = wanted ≡ Ok tt
Judges wanted (Err (M.Loose f)) = wanted ≡ Err f
Judges wanted (Err M.Memory) = ⊤

-- a rule that fails at this node
abbrev pub loose_at : LooseRule → Option ℕ → Option Loose
loose_at r None = None
loose_at r (Some n) = Some record { rule = r; at = n }

abbrev pub or_else : Option Loose → Option Loose → Option Loose
or_else None later = later
or_else (Some f) later = Some f

-- the least node that fails a test
abbrev pub least_of : Shape → (ℕ → Kind → Bool) → Option ℕ
least_of shape bad = first (nodes_where bad 0 shape.nodes)

abbrev pub least : Doc → (ℕ → Kind → Bool) → Option ℕ
least doc bad = least_of doc.shape bad

module _ (meanings : Meanings) (doc : Doc) where
  -- what the rules say that look at no tag
  abbrev pub early : Option Loose
  early =
      or_else (loose_at N1 (least doc (λ n k. not (is_orderly k))))
      (or_else (loose_at N2 (least doc (λ n k. is_on_cycle doc.shape n)))
      (or_else (loose_at N3 (least doc (λ n k. is_single_push k && has_several_out_edges doc n)))
      (or_else (loose_at N4 (least doc (may_lose doc)))
      (loose_at N5 (least doc (has_loose_body meanings doc))))))

  -- and the others
  abbrev pub late : Option Loose
  late =
      or_else (loose_at N6 (least doc (repeats_tag meanings doc)))
      (or_else (loose_at N7 (least doc (λ n k. has doc.sinks n && not (is_sequencer k))))
      (loose_at N8 (least doc (λ n k. is_function k && list_any (list_any is_cancel) doc.scripts))))

-- a function whose body isn't pure and single
abbrev pub has_free_body : Meanings → Kind → Bool
has_free_body meanings (K.Function reject limit body arg) = not (meanings.is_pure body && meanings.is_single body)
has_free_body meanings k = false

-- ---- tables by node

-- how many edges leave each node
abbrev pub AreOuts : Shape → List ℕ → Type 0
AreOuts shape outs = (length outs ≡ length shape.nodes) × ((n : ℕ) → n < length shape.nodes → get_or outs n 0 ≡ length (edges_leaving shape n))

-- which nodes pass a test
abbrev pub AreMarks : ℕ → (ℕ → Bool) → List Bool → Type 0
AreMarks size test marks = (length marks ≡ size) × ((n : ℕ) → n < size → get_or marks n false ≡ test n)

-- whether an edge into the node brings items unasked
abbrev pub comes_unasked_to : Doc → ℕ → Bool
comes_unasked_to doc n = list_any (λ (e : Edge). nat_eq e.to n && comes_unasked doc e) doc.shape.edges

-- at which nodes a tag comes twice to a port
abbrev pub AreRepeats : Meanings → Doc → List Bool → Type 0
AreRepeats meanings doc marks = (length marks ≡ length doc.shape.nodes) × ((n : ℕ) (k : Kind) → slice_get doc.shape.nodes n ≡ Some k → get_or marks n false ≡ repeats_tag meanings doc n k)

-- how many of the edges leave a node
abbrev pub leaving : List Edge → ℕ → ℕ
leaving [] n = 0
leaving (e ∷ es) n = if nat_eq e.from n then suc (leaving es n) else leaving es n

-- the same counts, edge by edge
abbrev pub AreCounts : Shape → List ℕ → Type 0
AreCounts shape outs = (length outs ≡ length shape.nodes) × ((n : ℕ) → n < length shape.nodes → get_or outs n 0 ≡ leaving shape.edges n)
