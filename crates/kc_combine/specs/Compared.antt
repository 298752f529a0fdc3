-- The words of several tables with their counts, and what is computed of those in a table of reads and in one of an
-- assembly.
-- Source: our formats page (`compare`). Merqury (Rhie et al. 2020) computes the consensus quality and the completeness
-- of an assembly, and its spectrum of copy numbers, from these numbers.
use Rattle.std.specs.Prelude.{◌≡◌, ℕ, zero, suc, ◌+◌, ◌-◌, ◌^◌, ◌≤◌, ◌==◌, ◌&&◌, Bool, nat_le, min, List, [], ◌∷◌}
use Rattle.std.specs.Prelude.{◌++◌, length, codes, count_by, decimal, flat_map, sum_by, if◌then◌else◌}
use Rattle.std.specs.List.{range_with_len}
use Rattle.kc_tally.specs.declared.row.Row.{Row}
use Rattle.kc_tally.specs.Tally.{row_of, total_of, AreOrderedRows, AreRows}
use Rattle.kc_report.specs.Bytes.{line_feed, tab}
use Rattle.kc_report.specs.Statistics.{named_line}
use Rattle.kc_combine.specs.Combined.{counts_in, first_of, none_has}
use Rattle.kc_combine.specs.declared.comparison.Comparison.{Comparison}

-- ---- the words of tables

-- the counts in the tables of each word below the bound that a table has, in the order of the words
unfoldable pub counts_below : ℕ → List (List Row) → List (List ℕ)
counts_below zero tables = []
counts_below (suc word) tables = if none_has (counts_in tables word) then counts_below word tables
    else counts_below word tables ++ counts_in tables word ∷ []

-- the same for all words of k bases
abbrev pub counts_of_words : ℕ → List (List Row) → List (List ℕ)
counts_of_words k tables = counts_below (4 ^ k) tables

-- ---- two tables compared

-- a word's count in the reads, which are the first table, and in the assembly, which is the second one
abbrev pub in_reads : List ℕ → ℕ
in_reads counts = first_of counts

abbrev pub in_assembly : List ℕ → ℕ
in_assembly [] = 0
in_assembly (reads ∷ others) = first_of others

-- whether the reads have the word, and whether the assembly has it
abbrev pub reads_have : List ℕ → Bool
reads_have counts = nat_le 1 (in_reads counts)

abbrev pub assembly_has : List ℕ → Bool
assembly_has counts = nat_le 1 (in_assembly counts)

-- whether the reads lack the word, and the assembly has it
abbrev pub only_assembly_has : List ℕ → Bool
only_assembly_has counts = (in_reads counts == 0) && assembly_has counts

-- whether it is a word of the reads with at least this count
abbrev pub is_solid : ℕ → List ℕ → Bool
is_solid solid counts = reads_have counts && nat_le solid (in_reads counts)

-- the eight numbers of words with these counts
abbrev pub comparison_of : ℕ → List (List ℕ) → Comparison
comparison_of solid words = record {
  reads_distinct = count_by reads_have words;
  assembly_distinct = count_by assembly_has words;
  shared_distinct = count_by (λ counts. reads_have counts && assembly_has counts) words;
  assembly_total = sum_by in_assembly words;
  assembly_only_distinct = count_by only_assembly_has words;
  assembly_only_total = sum_by (λ counts. if only_assembly_has counts then in_assembly counts else 0) words;
  solid_distinct = count_by (is_solid solid) words;
  solid_shared = count_by (λ counts. is_solid solid counts && assembly_has counts) words;
}

-- ---- the numbers while words come

-- a number, or the greatest one of 64 bits if it is above that
abbrev pub capped : ℕ → ℕ
capped number = min number (2 ^ 64 - 1)

-- the same for each of the eight numbers
abbrev pub capped_comparison : Comparison → Comparison
capped_comparison c = record {
  reads_distinct = capped c.reads_distinct;
  assembly_distinct = capped c.assembly_distinct;
  shared_distinct = capped c.shared_distinct;
  assembly_total = capped c.assembly_total;
  assembly_only_distinct = capped c.assembly_only_distinct;
  assembly_only_total = capped c.assembly_only_total;
  solid_distinct = capped c.solid_distinct;
  solid_shared = capped c.solid_shared;
}

-- the sums of the eight numbers
abbrev pub added : Comparison → Comparison → Comparison
added c d = record {
  reads_distinct = c.reads_distinct + d.reads_distinct;
  assembly_distinct = c.assembly_distinct + d.assembly_distinct;
  shared_distinct = c.shared_distinct + d.shared_distinct;
  assembly_total = c.assembly_total + d.assembly_total;
  assembly_only_distinct = c.assembly_only_distinct + d.assembly_only_distinct;
  assembly_only_total = c.assembly_only_total + d.assembly_only_total;
  solid_distinct = c.solid_distinct + d.solid_distinct;
  solid_shared = c.solid_shared + d.solid_shared;
}

pub record ComparingSeen : Type 0 where
  -- the least count of a solid word
  pub solid : ℕ
  -- the numbers so far
  pub numbers : Comparison

-- these are the numbers of words with these counts, as far as they fit
abbrev pub HasCompared : ComparingSeen → List (List ℕ) → Type 0
HasCompared comparing words = comparing.numbers ≡ capped_comparison (comparison_of comparing.solid words)

-- ---- the lines

-- the lines of the eight numbers, which begin at column 25
unfoldable pub comparison_text : Comparison → List ℕ
comparison_text c = named_line (codes "Reads_distinct:         ") c.reads_distinct
    ++ named_line (codes "Assembly_distinct:      ") c.assembly_distinct
    ++ named_line (codes "Shared_distinct:        ") c.shared_distinct
    ++ named_line (codes "Assembly_total:         ") c.assembly_total
    ++ named_line (codes "Assembly_only_distinct: ") c.assembly_only_distinct
    ++ named_line (codes "Assembly_only_total:    ") c.assembly_only_total
    ++ named_line (codes "Solid_distinct:         ") c.solid_distinct
    ++ named_line (codes "Solid_shared:           ") c.solid_shared

-- ---- the spectrum of copy numbers

-- a word's copies in the assembly, from 0 to 4, or 5 for more
abbrev pub copies_of : List ℕ → ℕ
copies_of counts = min 5 (in_assembly counts)

-- its count in the reads up to `high`, or one more for all above
abbrev pub capped_in_reads : ℕ → List ℕ → ℕ
capped_in_reads high counts = min (high + 1) (in_reads counts)

-- how many of the words have so many copies and this count in the reads
abbrev pub words_with : ℕ → List (List ℕ) → ℕ → ℕ → ℕ
words_with high words copies count =
    count_by (λ counts. (copies_of counts == copies) && (capped_in_reads high counts == count)) words

-- a line: copies, a count in the reads, and how many words have both; no line if none has
abbrev pub copies_line : ℕ → ℕ → ℕ → List ℕ
copies_line copies count words = if words == 0 then []
    else decimal copies ++ tab ∷ decimal count ++ tab ∷ decimal words ++ line_feed ∷ []

-- the lines of all pairs that occur, rising
unfoldable pub spectrum_text : ℕ → List (List ℕ) → List ℕ
spectrum_text high words =
    flat_map (λ copies. flat_map (λ count. copies_line copies count (words_with high words copies count))
    (range_with_len 0 (high + 2))) (range_with_len 0 6)

-- ---- facts about the words of all tables

-- the words of each of two tables are as many as its rows
abbrev pub CountsReads : Type 0
CountsReads = (k solid : ℕ) (reads assembly : List Row) → AreOrderedRows (4 ^ k) reads
    → (comparison_of solid (counts_of_words k (reads ∷ assembly ∷ []))).reads_distinct ≡ length reads

abbrev pub CountsAssembly : Type 0
CountsAssembly = (k solid : ℕ) (reads assembly : List Row) → AreOrderedRows (4 ^ k) assembly
    → (comparison_of solid (counts_of_words k (reads ∷ assembly ∷ []))).assembly_distinct ≡ length assembly

-- the sum of the assembly's counts is that of its rows
abbrev pub SumsAssembly : Type 0
SumsAssembly = (k solid : ℕ) (reads assembly : List Row) → AreOrderedRows (4 ^ k) assembly
    → (comparison_of solid (counts_of_words k (reads ∷ assembly ∷ []))).assembly_total ≡ total_of assembly

-- the numbers of two tables that tallies may have fit 64 bits, so none is cut off
abbrev pub NumbersFit : Type 0
NumbersFit = (k solid : ℕ) (both : Bool) (reads assembly : List Row) → k ≤ 31 → AreRows k both reads
    → AreRows k both assembly → let numbers = comparison_of solid (counts_of_words k (reads ∷ assembly ∷ [])) in
    capped_comparison numbers ≡ numbers

-- tables of words of k bases have at most 2 ^ 62 words
abbrev pub WordsFit : Type 0
WordsFit = (k : ℕ) (tables : List (List Row)) → k ≤ 31 → length (counts_of_words k tables) ≤ 2 ^ 62

-- ---- the worked row

-- the merged table of ACGTA, ACG and ACG: ACG has the number 6, CGT 27 and GTA 44
abbrev pub worked_reads : List Row
worked_reads = row_of 6 3 ∷ row_of 27 1 ∷ row_of 44 1 ∷ []

-- the table of ACGAA: CGA has the number 24, and GAA 32
abbrev pub worked_assembly : List Row
worked_assembly = row_of 6 1 ∷ row_of 24 1 ∷ row_of 32 1 ∷ []

-- the counts of ACG, CGA, CGT, GAA and GTA in both
abbrev pub worked_counts : List (List ℕ)
worked_counts = (3 ∷ 1 ∷ []) ∷ (0 ∷ 1 ∷ []) ∷ (1 ∷ 0 ∷ []) ∷ (0 ∷ 1 ∷ []) ∷ (1 ∷ 0 ∷ []) ∷ []

abbrev pub worked_numbers : List ℕ
worked_numbers = codes "Reads_distinct:         3\nAssembly_distinct:      3\nShared_distinct:        1\n"
    ++ codes "Assembly_total:         3\nAssembly_only_distinct: 2\nAssembly_only_total:    2\n"
    ++ codes "Solid_distinct:         1\nSolid_shared:           1\n"

abbrev pub worked_spectrum : List ℕ
worked_spectrum = codes "0\t1\t2\n1\t0\t2\n1\t3\t1\n"
