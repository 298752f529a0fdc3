-- The effect of selecting the reads of a source.
use Rattle.std.specs.Prelude.{◌≡◌, ℕ, List, length, Result, Ok, Err}
use Rattle.kc_io.specs.Sources.{Seen}
use Rattle.kc_io.specs.Sinks.{Written, HasWritten, HasBegun}
use Rattle.kc_fastx.specs.declared.read_faults.FastxFault.{FastxFault}
use Rattle.kc_fastx.specs.Reading.{Stand, MeetsFault, ComesBehind}
use Rattle.kc_fastx.specs.Titles.{Record, HasGivenRecords, GivesRecords, reads_in}
use Rattle.kc_tally.specs.Tally.{TallySeen}
use Rattle.kc_select.specs.declared.select_fault.SelectFault.{SelectFault}
use Rattle.kc_select.specs.declared.select_fault.SelectFault.TheVariants.{Reads, Write}
use Rattle.kc_select.specs.declared.selection_counts.Selected.{Selected}
use Rattle.kc_select.specs.Solid.{SelectionRule, SelectorSeen}
use Rattle.kc_select.specs.Counts.{counts_of}
use Rattle.kc_select.specs.Texts.{selected_text}

-- the parameters: the table, the rule of the selection, and how many bytes the source may give
pub record Task : Type 0 where
  pub tally : TallySeen
  pub rule : SelectionRule
  pub limit : ℕ

-- the task of a selector, for a source that may give so many bytes
abbrev pub task_of : SelectorSeen → ℕ → Task
task_of selector limit = record { tally = selector.tally; rule = selector.rule; limit = limit }

-- the views of the source and of the sink
pub record Streams : Type 0 where
  pub source : Seen
  pub sink : Written

-- these records came first, whatever may come after them
abbrev pub BeginWith : Task → Seen → List Record → Type 0
BeginWith task start records =
    (now : Seen) × (stand : Stand) × HasGivenRecords start now task.limit records stand

-- After these records the reads of the source meet this fault. If it is one of lines, it is that of the next record;
-- other faults belong to no record.
abbrev pub Meets : Task → Seen → Seen → List Record → FastxFault → Type 0
Meets task start now records fault = (stand : Stand) × MeetsFault start now task.limit stand fault
    × ComesBehind (reads_in records) stand fault

-- the result for these bytes, which have these records
abbrev pub selected_of : Task → List ℕ → List Record → Selected
selected_of task bytes records =
    record { bytes = length bytes; counts = counts_of task.tally task.rule (reads_in records) }

-- Ok: the text of the selected records of all bytes was written and flushed, and they were counted. If the reads meet a
-- fault, the text of the selected ones among the records before it was written and flushed; for a fault of lines, these
-- are all records before the faulty one. If the writer failed, it took a beginning of the text of the selected ones
-- among the records that had come.
abbrev pub Selects : Task → Streams → Streams → Result Selected SelectFault → Type 0
Selects task old new (Ok selected) =
    (records : List Record) × (gives : GivesRecords old.source new.source task.limit records)
    × HasWritten old.sink new.sink (selected_text task.tally task.rule records)
    × (selected ≡ selected_of task gives.0 records)
Selects task old new (Err (Reads fault)) =
    (records : List Record) × BeginWith task old.source records × Meets task old.source new.source records fault
    × HasWritten old.sink new.sink (selected_text task.tally task.rule records)
Selects task old new (Err Write) =
    (records : List Record) × BeginWith task old.source records
    × HasBegun old.sink new.sink (selected_text task.tally task.rule records)

-- The text is written, and this fault of the reads is returned; or the writer failed, and took a beginning of the text.
abbrev pub EndsWith : Written → Written → List ℕ → FastxFault → SelectFault → Type 0
EndsWith old new text fault (Reads met) = (met ≡ fault) × HasWritten old new text
EndsWith old new text fault Write = HasBegun old new text
