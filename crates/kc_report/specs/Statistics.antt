-- The text of the statistics of a tally: source, what `jellyfish stats` prints, Marçais and Kingsford 2011.
use Rattle.std.specs.Prelude.{ℕ, List, [], ◌∷◌, ◌++◌, codes, decimal}
use Rattle.kc_tally.specs.declared.row.Row.{Row}
use Rattle.kc_tally.specs.declared.tally_statistics.Statistics.{Statistics}
use Rattle.kc_tally.specs.Statistics.{statistics_of}
use Rattle.kc_report.specs.Bytes.{line_feed}

-- a line: its name, padded, and a number
abbrev pub named_line : List ℕ → ℕ → List ℕ
named_line name number = name ++ decimal number ++ line_feed ∷ []

-- how many words occur once, how many occur, the sum of their occurrences, and the occurrences of the most frequent
-- word
unfoldable pub statistics_lines : Statistics → List ℕ
statistics_lines statistics = named_line (codes "Unique:    ") statistics.unique
    ++ named_line (codes "Distinct:  ") statistics.distinct
    ++ named_line (codes "Total:     ") statistics.total
    ++ named_line (codes "Max_count: ") statistics.greatest

-- the lines of the statistics of these rows
abbrev pub statistics_text : List Row → List ℕ
statistics_text rows = statistics_lines (statistics_of rows)
