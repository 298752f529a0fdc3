-- The profile of a record: the counts of the words along it, as bedGraph.
-- Source: bedGraph of the UCSC Genome Browser: positions from 0, and an exclusive end; the runs are this project's own.
use Rattle.std.specs.Prelude.{ℕ, ◌+◌, ◌==◌, ◌&&◌, ◌||◌, Bool, not, List, [], ◌∷◌, ◌++◌, map, take, Option, None, Some}
use Rattle.std.specs.Prelude.{if◌then◌else◌, decimal}
use Rattle.std.specs.List.{flat_map, prefix_len}
use Rattle.std.specs.Option.{option_map}
use Rattle.kc_fastx.specs.Lines.{line_feed}
use Rattle.kc_fastx.specs.Reads.{Read}
use Rattle.kc_fastx.specs.Titles.{Record}
use Rattle.kc_kmer.specs.Word.{number}
use Rattle.kc_kmer.specs.Rule.{CountingRule}
use Rattle.kc_kmer.specs.Occurrences.{counted_at, positions}
use Rattle.kc_tally.specs.Tally.{TallySeen, count_of}
use Rattle.kc_select.specs.declared.run_walk.CountRun.{CountRun}

-- the count in the table of the word at position p, if p counts
abbrev pub count_at : TallySeen → CountingRule → Read → ℕ → Option ℕ
count_at tally rule read p = option_map (λ word. count_of tally.rows (number word)) (counted_at rule read p)

-- the counts at the positions of a read, in order
unfoldable pub counts_along : TallySeen → CountingRule → Read → List (Option ℕ)
counts_along tally rule read = map (λ p. count_at tally rule read p) (positions rule read)

-- the words at positions `start` to `end` - 1 have this count
abbrev pub run_of : ℕ → ℕ → ℕ → CountRun
run_of start end count = record { start = start; end = end; count = count }

-- whether the second run continues the first: it begins at the first one's end, and has the same count
abbrev pub continues : CountRun → CountRun → Bool
continues run next = (run.end == next.start) && (run.count == next.count)

-- a run before others: it is joined with the first of them if that continues it
unfoldable pub put_before : CountRun → List CountRun → List CountRun
put_before run [] = run ∷ []
put_before run (next ∷ rest) =
    if continues run next then run_of run.start next.end run.count ∷ rest else run ∷ next ∷ rest

-- the longest runs of equal counts, for the counts from position p on
unfoldable pub runs_from : ℕ → List (Option ℕ) → List CountRun
runs_from p [] = []
runs_from p (None ∷ counts) = runs_from (p + 1) counts
runs_from p (Some count ∷ counts) = put_before (run_of p (p + 1) count) (runs_from (p + 1) counts)

-- a tab; and whether a byte is a tab or a space
abbrev pub tab : ℕ
tab = 9

abbrev pub is_blank : ℕ → Bool
is_blank byte = (byte == 32) || (byte == tab)

-- the name of a record: its title up to the first blank
abbrev pub name_of : List ℕ → List ℕ
name_of title = take (prefix_len (λ byte. not (is_blank byte)) title) title

-- the rest of a run's line, after the name: the start, the end and the count, each after a tab
abbrev pub run_numbers : CountRun → List ℕ
run_numbers run = (tab ∷ []) ++ decimal run.start ++ (tab ∷ []) ++ decimal run.end ++ (tab ∷ []) ++ decimal run.count
    ++ line_feed ∷ []

-- the line of a run
abbrev pub run_line : List ℕ → CountRun → List ℕ
run_line name run = name ++ run_numbers run

-- the lines of runs
unfoldable pub run_lines : List ℕ → List CountRun → List ℕ
run_lines name runs = flat_map (λ run. run_line name run) runs

-- the lines of a record
abbrev pub profile_lines : TallySeen → CountingRule → Record → List ℕ
profile_lines tally rule this =
    run_lines (name_of this.title) (runs_from 0 (counts_along tally rule this.read))

-- the profile of records: their lines, record after record
abbrev pub profile_text : TallySeen → CountingRule → List Record → List ℕ
profile_text tally rule records = flat_map (λ this. profile_lines tally rule this) records
