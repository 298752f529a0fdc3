-- The histogram of a tally, a function of its rows: source, what `jellyfish histo` prints, Marçais and Kingsford 2011.
use Rattle.std.specs.Prelude.{◌≡◌, ℕ, ◌+◌, ◌==◌, List, [], ◌∷◌, ◌++◌, decimal, if◌then◌else◌}
use Rattle.std.specs.Prelude.{Result, Ok, Err, map, flat_map, count_by, nat_lt}
use Rattle.std.specs.List.{range_with_len}
use Rattle.kc_io.specs.Sinks.{Written, HasWritten, HasBegun}
use Rattle.kc_tally.specs.declared.row.Row.{Row}
use Rattle.kc_report.specs.declared.report_faults.ReportFault.{ReportFault}
use Rattle.kc_report.specs.declared.report_faults.ReportFault.TheVariants.{Write, Memory}
use Rattle.kc_report.specs.Bytes.{line_feed, space}

-- how many words occur this often
abbrev pub words_with_count : List Row → ℕ → ℕ
words_with_count rows count = count_by (λ row. row.count == count) rows

-- how many words occur more often
abbrev pub words_above : List Row → ℕ → ℕ
words_above rows count = count_by (λ row. nat_lt count row.count) rows

-- a line: a count, and how many words have it; no line if none has
abbrev pub count_line : ℕ → ℕ → List ℕ
count_line count words = if words == 0 then [] else decimal count ++ space ∷ decimal words ++ line_feed ∷ []

-- the lines of all counts from 1 to high, and then one for all greater counts
unfoldable pub histo_text : ℕ → List Row → List ℕ
histo_text high rows =
    flat_map (λ count. count_line count (words_with_count rows count)) (range_with_len 1 high)
    ++ count_line (high + 1) (words_above rows high)

-- the lines of the counts from `count` on, given how many words have each, and then one for all greater counts
unfoldable pub lines_from : ℕ → List ℕ → ℕ → List ℕ
lines_from count [] above = count_line count above
lines_from count (words ∷ more) above = count_line count words ++ lines_from (count + 1) more above

-- how many words have each count from 1 to high
unfoldable pub words_by_count : ℕ → List Row → List ℕ
words_by_count high rows = map (words_with_count rows) (range_with_len 1 high)

-- The result of a call that writes and takes memory: if memory was refused, the sink was not called.
abbrev pub WritesUnlessMemory : {A : Type 0} → Written → Written → Result A ReportFault → List ℕ → Type 0
WritesUnlessMemory old new (Ok done) text = HasWritten old new text
WritesUnlessMemory old new (Err Write) text = HasBegun old new text
WritesUnlessMemory old new (Err Memory) text = new ≡ old
WritesUnlessMemory old new (Err fault) text = ⊥
