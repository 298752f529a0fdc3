-- The tally of reads: how often each word occurs.
-- Source: what `jellyfish count` computes, Marçais and Kingsford 2011.
use Rattle.std.specs.Prelude.{◌≡◌, ℕ, Bool, ◌^◌, ◌<◌, ◌≤◌, ◌==◌, List, [], ◌∷◌, map, All, sum_by, if◌then◌else◌}
use Rattle.std.specs.List.Sorted.{IsStrictlyIncreasing}
pub use Rattle.kc_fastx.specs.Reads.{Read}
use Rattle.kc_kmer.specs.Word.{text, form}
use Rattle.kc_kmer.specs.Rule.{CountingRule}
use Rattle.kc_kmer.specs.Occurrences.{occurrences}
use Rattle.kc_tally.specs.declared.row.Row.{Row}

-- a row of a word and its count
abbrev pub row_of : ℕ → ℕ → Row
row_of word count = record { word = word; count = count }

-- the count of the word n, 0 if no row has it
abbrev pub count_of : List Row → ℕ → ℕ
count_of [] n = 0
count_of (row ∷ rows) n = if row.word == n then row.count else count_of rows n

-- the sum of the counts
abbrev pub total_of : List Row → ℕ
total_of rows = sum_by (λ row. row.count) rows

-- rows in the order of their words, which are below the bound, each with a count of at least 1
pub record AreOrderedRows (bound : ℕ) (rows : List Row) : Type 0 where
  pub rising : IsStrictlyIncreasing (map (λ row. row.word) rows)
  pub words : All (λ row. row.word < bound) rows
  pub present : All (λ row. 1 ≤ row.count) rows

-- the rows that a tally of words of k bases may have: each word is in the form under which it counts, and the counts
-- add up to at most 2 ^ 62
pub record AreRows (k : ℕ) (both : Bool) (rows : List Row) : Type 0 where
  pub ordered : AreOrderedRows (4 ^ k) rows
  pub forms : All (λ row. form both (text k row.word) ≡ text k row.word) rows
  pub small : total_of rows ≤ 2 ^ 62

-- the rows are the tally of the reads: a row for each word that occurs, in the order of the words, with its occurrences
pub record IsTally (rule : CountingRule) (reads : List Read) (rows : List Row) : Type 0 where
  pub ordered : AreOrderedRows (4 ^ rule.k) rows
  pub counts : (n : ℕ) → n < 4 ^ rule.k → count_of rows n ≡ occurrences rule reads (text rule.k n)

-- a tally as a value: the length of its words, whether both strands were counted, and its rows
pub record TallySeen : Type 0 where
  pub k : ℕ
  pub both : Bool
  pub rows : List Row

-- the value is the tally of the reads under the rule
pub record IsTallyOf (rule : CountingRule) (reads : List Read) (tally : TallySeen) : Type 0 where
  pub k : tally.k ≡ rule.k
  pub both : tally.both ≡ rule.both
  pub rows : IsTally rule reads tally.rows
