-- Facts about tallies, for all reads.
use Rattle.std.specs.Prelude.{◌≡◌, ℕ, ◌^◌, ◌≤◌, List, ◌++◌, length}
use Rattle.kc_fastx.specs.Reads.{Read, base_count}
use Rattle.kc_kmer.specs.Rule.{CountingRule}
use Rattle.kc_kmer.specs.Occurrences.{words_of}
use Rattle.kc_tally.specs.declared.row.Row.{Row}
use Rattle.kc_tally.specs.Tally.{total_of, AreRows, IsTally, TallySeen, IsTallyOf}
use Rattle.kc_tally.specs.Sum.{IsSum, IsSumOf}

-- the tally of given reads is one finite map: two lists of rows that are its rows are equal
abbrev pub OneTally : Type 0
OneTally = (rule : CountingRule) (reads : List Read) (rows others : List Row)
    → IsTally rule reads rows → IsTally rule reads others → rows ≡ others

-- and it is one value
abbrev pub OneValue : Type 0
OneValue = (rule : CountingRule) (reads : List Read) (tally other : TallySeen)
    → IsTallyOf rule reads tally → IsTallyOf rule reads other → tally ≡ other

-- the tally of joined reads is the sum of the tallies of both parts
abbrev pub JoinedTally : Type 0
JoinedTally = (rule : CountingRule) (reads more : List Read) (rows others sums : List Row)
    → IsTally rule reads rows → IsTally rule more others → IsTally rule (reads ++ more) sums
    → IsSum rule.k rows others sums

-- the sum of the tallies of two lists of reads is the tally of these reads joined
abbrev pub SummedTally : Type 0
SummedTally = (rule : CountingRule) (reads more : List Read) (tally other sum : TallySeen)
    → IsTallyOf rule reads tally → IsTallyOf rule more other → IsSumOf tally other sum
    → IsTallyOf rule (reads ++ more) sum

-- the sum of two lists of rows is one finite map
abbrev pub OneSum : Type 0
OneSum = (k : ℕ) (rows others sums more : List Row) → IsSum k rows others sums → IsSum k rows others more → sums ≡ more

-- the counts of a tally add up to the number of all words, and to at most the number of bases
abbrev pub TallyTotal : Type 0
TallyTotal = (rule : CountingRule) (reads : List Read) (rows : List Row)
    → IsTally rule reads rows → total_of rows ≡ length (words_of rule reads)

abbrev pub BoundedTally : Type 0
BoundedTally = (rule : CountingRule) (reads : List Read) (rows : List Row)
    → 1 ≤ rule.k → IsTally rule reads rows → total_of rows ≤ base_count reads

-- the rows of a tally of at most 2 ^ 62 bases are the rows of a `Tally`
abbrev pub RowsOfTally : Type 0
RowsOfTally = (rule : CountingRule) (reads : List Read) (rows : List Row)
    → 1 ≤ rule.k → base_count reads ≤ 2 ^ 62
    → IsTally rule reads rows → AreRows rule.k rule.both rows
