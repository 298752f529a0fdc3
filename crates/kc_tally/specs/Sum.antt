-- The sum of two tallies: source, our formats page ("Merging").
use Rattle.std.specs.Prelude.{◌≡◌, ◌≢◌, ℕ, ◌+◌, ◌^◌, ◌<◌, List, [], ◌∷◌, Option, Some, None, min, ◌⊎◌}
use Rattle.kc_tally.specs.declared.row.Row.{Row}
use Rattle.kc_tally.specs.Tally.{row_of, count_of, AreOrderedRows, TallySeen}

-- the sum of two lists of rows of words of k bases: the finite map that gives each word the sum of its counts, where a
-- missing row counts as 0
pub record IsSum (k : ℕ) (rows others sums : List Row) : Type 0 where
  pub ordered : AreOrderedRows (4 ^ k) sums
  pub counts : (n : ℕ) → n < 4 ^ k → count_of sums n ≡ count_of rows n + count_of others n

-- the value is the sum of two tallies with words of the same length, of which both or neither count both strands
pub record IsSumOf (tally other sum : TallySeen) : Type 0 where
  pub k : sum.k ≡ tally.k
  pub both : sum.both ≡ tally.both
  pub rows : IsSum tally.k tally.rows other.rows sum.rows

-- the word of the first row
abbrev pub first_word : List Row → Option ℕ
first_word [] = None
first_word (row ∷ rows) = Some row.word

-- the lesser of two words, if there are two
abbrev pub lesser : Option ℕ → Option ℕ → Option ℕ
lesser None other = other
lesser (Some word) None = Some word
lesser (Some word) (Some other) = Some (min word other)

-- if the first row has the word, it is used up, and this is its count; otherwise the count is 0
abbrev pub TakesCount : List Row → List Row → ℕ → ℕ → Type 0
TakesCount before after word count = (before ≡ row_of word count ∷ after)
    ⊎ ((before ≡ after) × (count ≡ 0) × (first_word before ≢ Some word))

-- the lesser of the first words is used up in both lists, and the row has the sum of its counts
pub record TakesSum (rows after others afters : List Row) (row : Row) : Type 0 where
  pub count : ℕ
  pub more : ℕ
  pub word : lesser (first_word rows) (first_word others) ≡ Some row.word
  pub first : TakesCount rows after row.word count
  pub second : TakesCount others afters row.word more
  pub whole : row.count ≡ count + more
