-- What there is to report of a command that succeeded: source, our formats page ("The closing line").
use Rattle.std.specs.Prelude.{ℕ, ◌/◌, ◌%◌, nat_lt, zero, suc, true, [], ◌++◌, length, Option, Some, None}
use Rattle.std.specs.Prelude.{codes, decimal, if◌then◌else◌, option_map, ◌≡◌, ◌==◌}
use Rattle.clap.specs.Words.{Text}
use Rattle.kc_combine.specs.declared.written_tables.Totals.{Totals}
use Rattle.kc_report.specs.declared.origin.Origin.{Origin}
use Rattle.kc_select.specs.declared.selection_counts.SelectionCounts.{SelectionCounts}
use Rattle.kc_tally.specs.Tally.{TallySeen, total_of}
use Rattle.kc_tool.specs.Selections.{counts_line}
use Rattle.kc_tool.specs.Tallies.{TableSeen}
use Rattle.kc_tool.specs.declared.told.CountedWords.{CountedWords}
use Rattle.kc_tool.specs.declared.told.Told.{Told}
use Rattle.kc_tool.specs.declared.told.Told.TheVariants.{Nothing, Counted, Selected, Profiled}

-- how many k-mers a tally has, with the number of reads
abbrev pub counted_with : Option ℕ → TallySeen → CountedWords
counted_with reads tally = record { reads = reads; total = total_of tally.rows; distinct = length tally.rows }

-- how many k-mers a combination of tables has; of how many reads is not printed
abbrev pub counted_in : Totals → CountedWords
counted_in totals = record { reads = None; total = totals.total; distinct = totals.distinct }

-- what there is to report of a text that was derived from tables: how much a table has, and nothing of another text
abbrev pub told_of_totals : Option Totals → Told
told_of_totals (Some totals) = Counted (counted_in totals)
told_of_totals None = Nothing

-- how many reads a table was counted from, if that is known
abbrev pub reads_of : Option Origin → Option ℕ
reads_of origin = option_map (λ origin. origin.reads) origin

-- how many k-mers a count has, with the number of reads in its origin
abbrev pub counted_of : TableSeen → CountedWords
counted_of table = counted_with (reads_of table.1) table.0

-- ---- the closing line

-- a number below 1,000 with three digits
abbrev pub zeros_before : ℕ → Text
zeros_before n = if nat_lt n 10 then codes "00" else if nat_lt n 100 then codes "0" else []

abbrev pub three_digits : ℕ → Text
three_digits n = zeros_before n ++ decimal n

-- a number in groups of three digits with commas between them, with at most so many groups after the first
abbrev pub in_groups : ℕ → ℕ → Text
in_groups zero n = decimal n
in_groups (suc more) n =
    if nat_lt n 1000 then decimal n else in_groups more (n / 1000) ++ codes "," ++ three_digits (n % 1000)

-- a number of 64 bits has at most seven groups
abbrev pub grouped : ℕ → Text
grouped n = in_groups 6 n

-- a number of things, as `1 read` and `2 reads`
abbrev pub many : ℕ → Text → Text
many n thing = grouped n ++ codes " " ++ thing ++ (if n == 1 then [] else codes "s")

-- how long it took, in tenths of a second, if that is known
abbrev pub time_text : Option ℕ → Text
time_text None = codes "\n"
time_text (Some tenths) = codes ", " ++ decimal (tenths / 10) ++ codes "." ++ decimal (tenths % 10) ++ codes " s\n"

abbrev pub reads_text : Option ℕ → Text
reads_text None = []
reads_text (Some reads) = many reads (codes "read") ++ codes ", "

-- what is added if no k-mer was counted
abbrev pub none_text : ℕ → Text
none_text n = if n == 0
    then codes "  no k-mer was counted: one is k letters A, C, G or T in a row, and with --only of the list\n"
    else []

-- the line with what was counted, selected or profiled, and how long it took
abbrev pub closing_line : Told → Option ℕ → Text
closing_line Nothing passed = []
closing_line (Counted words) passed = reads_text words.reads ++ many words.total (codes "k-mer") ++ codes ", "
    ++ grouped words.distinct ++ codes " distinct" ++ time_text passed ++ none_text words.total
closing_line (Selected counts asked) passed = grouped counts.kept ++ codes " of " ++ many counts.reads (codes "read")
    ++ codes " kept" ++ time_text passed
closing_line (Profiled counts) passed =
    many counts.reads (codes "read") ++ codes ", " ++ many counts.words (codes "k-mer") ++ time_text passed

-- the text is the closing line, for any time of the clock
abbrev pub IsClosing : Told → Text → Type 0
IsClosing told text = (passed : Option ℕ) × (text ≡ closing_line told passed)

-- ---- the line for programs

-- the counts of a selection, if they are asked for, and their line
abbrev pub asked_counts : Told → Option SelectionCounts
asked_counts (Selected counts true) = Some counts
asked_counts told = None

abbrev pub line_of : Option SelectionCounts → Text
line_of None = []
line_of (Some counts) = counts_line counts

abbrev pub asked_line : Told → Text
asked_line told = line_of (asked_counts told)
