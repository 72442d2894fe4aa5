-- A report whose first line is written at once.
use Rattle.std.specs.Prelude.{ℕ, ◌<◌, Bool, Option, List, [], ◌∷◌, ◌++◌, take}
use Rattle.flow_item.specs.declared.event.Event.{Event}
use Rattle.flow_io.specs.Streams.{Grows}
use Rattle.flow_doc.specs.declared.Doc.{Doc}
use Rattle.flow_doc.specs.declared.Life.{Life}
use Rattle.flow_print.specs.declared.status.Status.{Status}
use Rattle.flow_report.specs.Words.{with_newline}
use Rattle.flow_report.specs.Sinks.{sink_pairs, sinks_line, all_sink_lines}
use Rattle.flow_print.specs.Report.{tally_section, live_section, journal_section, cancelled_lines, cancelled_count, stopped_lines, last_line}

-- what is written grew by a first part of the text that isn't empty
abbrev pub GrowsByStart : Option (List ℕ) → List ℕ → Option (List ℕ) → Type 0
GrowsByStart before text after = (n : ℕ) × (0 < n) × Grows before (take n text) after

-- the first line of a report, by the sinks of its document
abbrev pub first_line : List ℕ → List ℕ
first_line sinks = with_newline (sinks_line sinks)

-- the lines of a report after its first
abbrev pub later_lines : Doc → List Event → Option Event → List Life → Status → Bool → List (List ℕ)
later_lines doc es refused live status journal =
    all_sink_lines doc.names (sink_pairs doc.shape es) doc.sinks
    ++ tally_section doc es
    ++ live_section live
    ++ journal_section journal es
    ++ cancelled_lines (cancelled_count doc.shape.nodes es)
    ++ stopped_lines status refused
    ++ last_line es status ∷ []
