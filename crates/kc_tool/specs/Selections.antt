-- The reads of several sources that a table selects: source, our formats page.
use Rattle.std.specs.Prelude.{◌≡◌, ℕ, ◌-◌, List, [], ◌∷◌, ◌++◌, length, Result, Ok, Err, codes, decimal}
use Rattle.kc_io.specs.Sinks.{Written, HasWritten, HasBegun}
use Rattle.kc_io.specs.Sources.{Seen}
use Rattle.kc_fastx.specs.Parsing.{most_bytes}
use Rattle.kc_fastx.specs.Titles.{Record, GivesRecords, reads_in}
use Rattle.kc_select.specs.Counts.{counts_of}
use Rattle.kc_select.specs.declared.selection_counts.SelectionCounts.{SelectionCounts}
use Rattle.kc_select.specs.declared.select_fault.SelectFault.TheVariants as why
use Rattle.kc_select.specs.declared.selection_counts.Selected.{Selected}
use Rattle.kc_select.specs.Selecting.{BeginWith, Meets, Selects, Streams, Task}
use Rattle.kc_select.specs.Solid.{SelectionRule}
use Rattle.kc_select.specs.Texts.{selected_text}
use Rattle.kc_tally.specs.Tally.{TallySeen}
use Rattle.kc_tool.specs.Tallies.{SourcePlace}
use Rattle.kc_tool.specs.declared.tool_faults.ToolFault.{ToolFault}
use Rattle.kc_tool.specs.declared.tool_faults.ToolFault.TheVariants.{Fastx, Memory, Write}

-- the line with the numbers of the reads
abbrev pub counts_line : SelectionCounts → List ℕ
counts_line counts = codes "kcount: " ++ decimal counts.reads ++ codes " reads, "
    ++ decimal counts.kept ++ codes " kept, "
    ++ decimal counts.words ++ codes " k-mers, "
    ++ decimal counts.solid ++ codes " solid\n"

-- the task for one source, which may give so many bytes
abbrev pub task_within : SelectionRule → TallySeen → ℕ → Task
task_within rule tally limit = record { tally = tally; rule = rule; limit = limit }

-- the selected reads of source `number` were written, and this was counted
abbrev pub SelectsNext : Task → ℕ → Streams → Streams → Result Selected ToolFault → Type 0
SelectsNext task number old new (Ok selected) = Selects task old new (Ok selected)
SelectsNext task number old new (Err (Fastx source fault)) =
    (source ≡ number) × Selects task old new (Err (why.Reads fault))
SelectsNext task number old new (Err Write) = Selects task old new (Err why.Write)
SelectsNext task number old new (Err fault) = ⊥

-- the records of all sources, in order
abbrev pub all_records : List (List Record) → List Record
all_records [] = []
all_records (records ∷ others) = records ++ all_records others

-- each source gave its records in this call, up to its end, and all together at most `limit` bytes, of which `left` are
-- left. The first list has the views of the sources before the call, the second those after it
abbrev pub GaveRecords : ℕ → ℕ → List Seen → List Seen → List (List Record) → Type 0
GaveRecords limit left [] [] [] = left ≡ limit
GaveRecords limit left (old ∷ olds) (new ∷ news) (here ∷ others) = (gives : GivesRecords old new limit here)
    × GaveRecords (limit - length gives.0) left olds news others
GaveRecords limit left _ _ _ = ⊥

-- the sources before number `number` gave these records; that source, which may give what they left of the limit, gave
-- these first
pub record StopsAt (rule : SelectionRule) (tally : TallySeen) (old new : List Seen) (number : ℕ) : Type 0 where
  pub place : SourcePlace old new number
  pub earlier : List (List Record)
  pub limit : ℕ
  pub gave : GaveRecords most_bytes limit place.before place.given earlier
  pub first : List Record
  pub came : BeginWith (task_within rule tally limit) place.here first

-- Ok: the selected reads of all sources were written, in order, and all were counted. If a source has a fault, the
-- selected reads before it were written. If the writer failed, it took a beginning of the text of those that had come.
-- If memory was refused before the first read, nothing was read or written.
abbrev pub SelectsFrom : SelectionRule → TallySeen → List Seen → List Seen → Written → Written
    → Result SelectionCounts ToolFault → Type 0
SelectsFrom rule tally old new before after (Ok counts) = (records : List (List Record)) × (left : ℕ)
    × GaveRecords most_bytes left old new records
    × HasWritten before after (selected_text tally rule (all_records records))
    × (counts ≡ counts_of tally rule (reads_in (all_records records)))
SelectsFrom rule tally old new before after (Err (Fastx number fault)) = (stop : StopsAt rule tally old new number)
    × Meets (task_within rule tally stop.limit) stop.place.here stop.place.left stop.first fault
    × HasWritten before after (selected_text tally rule (all_records stop.earlier ++ stop.first))
SelectsFrom rule tally old new before after (Err Write) = (number : ℕ) × (stop : StopsAt rule tally old new number)
    × HasBegun before after (selected_text tally rule (all_records stop.earlier ++ stop.first))
SelectsFrom rule tally old new before after (Err Memory) = (new ≡ old) × (after ≡ before)
SelectsFrom rule tally old new before after (Err fault) = ⊥
