-- Merging any number of tables, and the table text of the result: source, our formats page ("Merging").
use Rattle.std.specs.Prelude.{◌≡◌, ◌↔◌, ◌^◌, ◌≤◌, All, List, [], ◌∷◌, ◌++◌, map, sum_by}
use Rattle.std.specs.Prelude.{Option, None, IfSome, Result, Ok, Err}
use Rattle.kc_kmer.specs.Rule.{CountingRule}
use Rattle.kc_tally.specs.Tally.{Read, TallySeen, total_of, IsTallyOf}
use Rattle.kc_report.specs.declared.origin.Origin.{Origin}
use Rattle.kc_report.specs.declared.report_faults.ReportFault.{ReportFault}
use Rattle.kc_report.specs.declared.report_faults.ReportFault.TheVariants.{Unlike, TooLarge, Memory}
use Rattle.kc_report.specs.Merging.{AreAlike, counted_from, IsCountRead, joined_origin, Merges}
use Rattle.kc_report.specs.Table.{table_text}
use Rattle.kc_combine.specs.Combined.{IsCombined, sum_of}

-- a table text that was read: its tally, and its origin if it has one
abbrev pub TableSeen : Type 0
TableSeen = TallySeen × Option Origin

-- every two of the tables match
abbrev pub AreAllAlike : List TableSeen → Type 0
AreAllAlike tables = All (λ table. All (λ other. AreAlike table.0 other.0 table.1 other.1) tables) tables

-- the origin of all together; there is one if every table has one
abbrev pub joined_origins : List (Option Origin) → Option Origin
joined_origins [] = None
joined_origins (origin ∷ []) = origin
joined_origins (origin ∷ another ∷ origins) = joined_origin origin (joined_origins (another ∷ origins))

-- the sum of all counts and the sum of the reads are at most 2 ^ 62
pub record AreAllSmall (tables : List TableSeen) : Type 0 where
  pub totals : sum_by (λ table. total_of table.0.rows) tables ≤ 2 ^ 62
  pub reads : IfSome (joined_origins (map (λ table. table.1) tables)) (λ origin. origin.reads ≤ 2 ^ 62)

-- the value is the sum of tallies with words of one length, and with one setting of both strands
pub record IsSumOfAll (tallies : List TallySeen) (sum : TallySeen) : Type 0 where
  pub k : All (λ tally. sum.k ≡ tally.k) tallies
  pub both : All (λ tally. sum.both ≡ tally.both) tallies
  pub rows : IsCombined sum.k sum_of (map (λ tally. tally.rows) tallies) sum.rows

-- The result of merging tables: their sum, with the common origin; an error, if they don't match; otherwise an error,
-- if a sum is too large; otherwise an error, if memory was refused.
abbrev pub MergesAll : List TableSeen → Result TableSeen ReportFault → Type 0
MergesAll tables (Ok table) = AreAllAlike tables
    × AreAllSmall tables
    × IsSumOfAll (map (λ table. table.0) tables) table.0
    × (table.1 ≡ joined_origins (map (λ table. table.1) tables))
MergesAll tables (Err Unlike) = ¬ AreAllAlike tables
MergesAll tables (Err TooLarge) = AreAllAlike tables × (¬ AreAllSmall tables)
MergesAll tables (Err Memory) = AreAllAlike tables × AreAllSmall tables
MergesAll tables (Err fault) = ⊥

-- for two tables, the result is the same as that of merging two
abbrev pub MergesTwo : Type 0
MergesTwo = (table other : TableSeen) (answer : Result TableSeen ReportFault)
    → MergesAll (table ∷ other ∷ []) answer ↔ Merges table.0 other.0 table.1 other.1 answer

-- ---- texts

-- the reads of all inputs, joined in order
abbrev pub all_reads : List (List Read) → List Read
all_reads [] = []
all_reads (reads ∷ inputs) = reads ++ all_reads inputs

-- each table is the count of one input under the rule, in order
abbrev pub AreCountsRead : CountingRule → List (List Read) → List TableSeen → Type 0
AreCountsRead rule [] [] = Unit {0}
AreCountsRead rule (reads ∷ inputs) (table ∷ tables) = IsCountRead rule reads table × AreCountsRead rule inputs tables
AreCountsRead rule inputs tables = ⊥

-- table texts of several counts under one rule match
abbrev pub AllCountsMatch : Type 0
AllCountsMatch = (rule : CountingRule) (inputs : List (List Read)) (tables : List TableSeen)
    → AreCountsRead rule inputs tables → AreAllAlike tables

-- the table text of their merged table is, byte for byte, that of the count of all inputs' reads
abbrev pub AllMergedText : Type 0
AllMergedText = (rule : CountingRule) (reads : List Read) (inputs : List (List Read)) (tables : List TableSeen)
    (merged : TableSeen) (whole : TallySeen) → AreCountsRead rule (reads ∷ inputs) tables
    → MergesAll tables (Ok merged) → IsTallyOf rule (all_reads (reads ∷ inputs)) whole
    → table_text merged.0 merged.1 ≡ table_text whole (counted_from rule (all_reads (reads ∷ inputs)))
