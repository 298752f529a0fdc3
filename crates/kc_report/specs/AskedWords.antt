-- The asked words, as numbers.
use Rattle.std.specs.Prelude.{◌≡◌, ℕ, ◌==◌, Bool, List, Option, All}
use Rattle.std.specs.List.{Contains, list_any}
use Rattle.kc_io.specs.Sources.{Seen}
use Rattle.kc_kmer.specs.Word.{number, form}
use Rattle.kc_tally.specs.Tally.{TallySeen, count_of}
use Rattle.kc_report.specs.declared.origin.Origin.{Origin}
use Rattle.kc_report.specs.Querying.{IsAskable, in_upper_case}
use Rattle.kc_report.specs.TableReading.{GivesTable}

pub record WordsAsked : Type 0 where
  -- the numbers of the words, and how many of them are passed
  pub words : List ℕ
  pub passed : ℕ

-- whether a number is among these
abbrev pub is_in : List ℕ → ℕ → Bool
is_in words word = list_any (λ asked. asked == word) words

-- the number of a word, in the form under which it counts
abbrev pub asked_number : Bool → List ℕ → ℕ
asked_number both word = number (form both (in_upper_case word))

-- the number is that of one of these words, which has k bases
pub record IsAskedFor (k : ℕ) (both : Bool) (words : List (List ℕ)) (n : ℕ) : Type 0 where
  pub word : List ℕ
  pub is_one : Contains words word
  pub askable : IsAskable k word
  pub is : n ≡ asked_number both word

-- these are the numbers of those words that have k bases
pub record AreNumbersOf (k : ℕ) (both : Bool) (words : List (List ℕ)) (numbers : List ℕ) : Type 0 where
  pub each : (word : List ℕ) → Contains words word → IsAskable k word → Contains numbers (asked_number both word)
  pub only : All (IsAskedFor k both words) numbers

-- these numbers are kept of the words, and none is passed
pub record AreAsked (k : ℕ) (both : Bool) (words : List (List ℕ)) (asked : WordsAsked) : Type 0 where
  pub numbers : AreNumbersOf k both words asked.words
  pub first : asked.passed ≡ 0

-- `few` has the counts of these words in the tally, and no other words
pub record HasCountsOf (tally : TallySeen) (words : List (List ℕ)) (few : TallySeen) : Type 0 where
  pub k : few.k ≡ tally.k
  pub both : few.both ≡ tally.both
  pub counts : (word : List ℕ) → Contains words word → IsAskable tally.k word
      → count_of few.rows (asked_number tally.both word) ≡ count_of tally.rows (asked_number tally.both word)
  pub only : All (λ row. IsAskedFor tally.k tally.both words row.word) few.rows

-- all bytes of the source were taken, they are a table text, and `few` has its counts of these words
abbrev pub GivesCountsOf : Seen → Seen → ℕ → List (List ℕ) → TallySeen → Type 0
GivesCountsOf old new limit words few =
    (table : TallySeen × Option Origin) × GivesTable old new limit table × HasCountsOf table.0 words few
