-- The words of a table that are judged differently from a word with the count 0, as a list for look-ups.
-- Source: this project's own.
use Rattle.std.specs.Prelude.{◌≡◌, ℕ, Bool, not, List, Some, if◌then◌else◌}
use Rattle.kc_kmer.specs.Rule.{is_listed}
use Rattle.kc_tally.specs.Tally.{TallySeen, count_of}
use Rattle.kc_word.specs.Only.{WordList}
use Rattle.kc_select.specs.Solid.{SelectionRule, is_solid_count}

-- a word with this count is solid and a word that the table lacks is not, or the other way round
abbrev pub is_exception : SelectionRule → ℕ → Bool
is_exception rule count = if is_solid_count rule 0 then not (is_solid_count rule count) else is_solid_count rule count

-- the listed words are those with exceptional counts
abbrev pub AreExceptions : TallySeen → SelectionRule → List ℕ → Type 0
AreExceptions tally rule words = (word : ℕ) → is_listed (Some words) word ≡ is_exception rule (count_of tally.rows word)

-- the list has these words, and the table's length of words
pub record ListsExceptions (tally : TallySeen) (rule : SelectionRule) (list : WordList) : Type 0 where
  pub k : list.k ≡ tally.k
  pub words : AreExceptions tally rule list.words
