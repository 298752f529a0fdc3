-- Where the words of each prefix begin in a list of words.
-- Source: Knuth, The Art of Computer Programming, volume 3, section 6.3: a dictionary's thumb index.
use Rattle.std.specs.Prelude.{ℕ, ◌<◌, ◌≤◌, List, length, slice_index}

-- starts as a value: how many low bits of a word are outside its prefix, and for each prefix how many words have a
-- lesser one
pub record PrefixStarts : Type 0 where
  pub shift : ℕ
  pub starts : List ℕ

-- the words before a place are less than this word, and those from a place on are greater
abbrev pub AreLesser : List ℕ → ℕ → ℕ → Type 0
AreLesser words place word = (i : ℕ) → i < place → slice_index words i < word

abbrev pub AreGreater : List ℕ → ℕ → ℕ → Type 0
AreGreater words place word = (i : ℕ) → place ≤ i → i < length words → word < slice_index words i
