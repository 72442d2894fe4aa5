-- The summary of a run, by the nodes after it.
use Rattle.std.proofs.Common.{◌≡◌, ◌∙◌, ℕ, ℤ, Option, Some, None, List, [], ◌∷◌, length, map, refl, sym, ap}
use Rattle.std.specs.Prelude.{slice_get}
use Rattle.std.proofs.lemmas.List.{length-map}
use Rattle.flow_item.specs.declared.item.Item.{Item}
use Rattle.flow_item.specs.declared.event.Event.{Event}
use Rattle.flow_item.specs.Pairs.{Pair, pair_of}
use Rattle.flow_shape.specs.declared.Shape.{Shape}
use Rattle.flow_node.specs.Readied.{Readied}
use Rattle.flow_nodes.specs.Stepping.{node_of}
use Rattle.flow_nodes.specs.Rows.{nodes_of}
use Rattle.flow_doc.specs.declared.Doc.{Doc}
use Rattle.flow_print.specs.declared.status.Status.{Status}
use Rattle.flow_print.specs.Report.{last_line}
use Rattle.flow_print.specs.Replayed.{pairs_in, pairs_of}
use Rattle.flow_print.proofs.Reporting.{pairs_same}
use Rattle.std.specs.Int.{w64, cast_signed, cast_unsigned}
use Rattle.flow_gen.specs.Generated.{whole_sum, pairs_sum, first_sink_pairs, summary}
use Rattle.flow_gen.specs.Sums.{items_sum, first_pairs, summary_lines}
use Rattle.flow_gen.proofs.Sums.{sum_of_items, sum_of_pairs, bits_of_total}

first_shown : (shape : Shape) (sinks : List ℕ) (es : List Event) (nodes : List Readied) → map node_of nodes ≡ nodes_of shape es → first_pairs sinks nodes ≡ first_sink_pairs shape sinks es
first_shown shape [] es nodes are = refl
first_shown shape (n ∷ ns) es nodes are = pairs_same shape es nodes n are

bits_of_pairs : (ps : List Pair) → cast_signed w64 (cast_unsigned w64 (pairs_sum ps)) ≡ pairs_sum ps
bits_of_pairs ps = ap (λ (z : ℤ). cast_signed w64 (cast_unsigned w64 z)) (sum_of_pairs ps) ∙ (bits_of_total (λ (p : Pair). whole_sum p.1) ps ∙ sym (sum_of_pairs ps))

pub summary_is : (count : ℕ) (doc : Doc) (es : List Event) (nodes : List Readied) (status : Status) (lines : ℕ) (sum : ℤ) (last text : List ℕ) → map node_of nodes ≡ nodes_of doc.shape es →
    lines ≡ length (first_pairs doc.sinks nodes) → sum ≡ pairs_sum (first_pairs doc.sinks nodes) → last ≡ last_line es status → text ≡ summary_lines count lines (cast_signed w64 (cast_unsigned w64 sum)) last → text ≡ summary count doc es status
summary_is count doc es nodes status lines sum last text are lines_are sum_is last_is text_is =
    let shown = first_shown doc.shape doc.sinks es nodes are in
    let read : cast_signed w64 (cast_unsigned w64 sum) ≡ pairs_sum (first_pairs doc.sinks nodes) = ap (λ (z : ℤ). cast_signed w64 (cast_unsigned w64 z)) sum_is ∙ bits_of_pairs (first_pairs doc.sinks nodes) in
    text_is
    ∙ (ap (λ (n : ℕ). summary_lines count n (cast_signed w64 (cast_unsigned w64 sum)) last) (lines_are ∙ ap (λ (ps : List Pair). length ps) shown)
    ∙ (ap (λ (z : ℤ). summary_lines count (length (first_sink_pairs doc.shape doc.sinks es)) z last) (read ∙ ap pairs_sum shown)
    ∙ ap (λ (t : List ℕ). summary_lines count (length (first_sink_pairs doc.shape doc.sinks es)) (pairs_sum (first_sink_pairs doc.shape doc.sinks es)) t) last_is))

-- ---- the first sink's node

pub count_shown : (ps : List Pair) (items : List Item) (n : ℕ) → map pair_of items ≡ ps → n ≡ length items → n ≡ length ps
count_shown ps items n same e = e ∙ (sym (length-map items pair_of) ∙ ap (λ (l : List Pair). length l) same)

pub sum_shown : (ps : List Pair) (items : List Item) (z : ℤ) → map pair_of items ≡ ps → z ≡ items_sum items → cast_signed w64 (cast_unsigned w64 z) ≡ pairs_sum ps
sum_shown ps items z same e =
    ap (λ (y : ℤ). cast_signed w64 (cast_unsigned w64 y)) e ∙ (bits_of_total (λ (i : Item). whole_sum i.val) items ∙ (sym (sum_of_items items) ∙ ap pairs_sum same))

pub first_some : (sinks : List ℕ) (n : ℕ) (nodes : List Readied) (o : Option Readied) → slice_get sinks 0 ≡ Some n → o ≡ slice_get nodes n → pairs_in o ≡ first_pairs sinks nodes
first_some [] n nodes o e is = cc
first_some (m ∷ ms) n nodes o e is = let same : n ≡ m = cc in ap pairs_in is ∙ ap (λ (k : ℕ). pairs_of nodes k) same

pub first_none : (sinks : List ℕ) (nodes : List Readied) → slice_get sinks 0 ≡ None → [] ≡ first_pairs sinks nodes
first_none [] nodes e = refl
first_none (m ∷ ms) nodes e = cc
