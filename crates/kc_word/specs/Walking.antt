-- The words of a piece, byte by byte: the two numbers that are rolled along it.
-- Source: this project's own, with the two-bit codes of the Jellyfish paper (Marçais and Kingsford 2011).
use Rattle.std.specs.Prelude.{◌≡◌, ℕ, Bool, ◌+◌, ◌-◌, ◌^◌, ◌<◌, ◌≤◌, List, ◌++◌, map, length, take, drop, reverse}
use Rattle.std.specs.Prelude.{replicate, slice_index, Option, None, if◌then◌else◌}
use Rattle.std.specs.Option.{option_to_list}
use Rattle.std.specs.List.{suffix_len}
use Rattle.std.specs.Int.Digits.{number_from_digits}
use Rattle.std.specs.Char.{to_ascii_uppercase}
use Rattle.kc_fastx.specs.Reads.{read_of}
use Rattle.kc_kmer.specs.Letter.{is_base, code}
use Rattle.kc_kmer.specs.Rule.{CountingRule}
use Rattle.kc_kmer.specs.Occurrences.{words_in}
use Rattle.kc_word.specs.declared.rolled.Rolled.{Rolled}
use Rattle.kc_word.specs.Cutting.{unusable}

-- the last k bytes, where k bytes N come before the first one
unfoldable pub last_window : ℕ → List ℕ → List ℕ
last_window k bytes = drop (length bytes) (replicate k unusable ++ bytes)

-- whether the byte is a base in either case
abbrev pub is_letter : ℕ → Bool
is_letter byte = is_base (to_ascii_uppercase byte)

-- the digit of a byte: its code in the word, and 3 minus the code in the reverse complement. A byte that is no base
-- counts as A
unfoldable pub digit_of : ℕ → ℕ
digit_of byte = if is_letter byte then code (to_ascii_uppercase byte) else 0

unfoldable pub other_digit : ℕ → ℕ
other_digit byte = 3 - digit_of byte

-- how many bases there are at the end of the bytes
unfoldable pub run_of : ℕ → List ℕ → ℕ
run_of k bytes = suffix_len is_letter (replicate k unusable ++ bytes)

-- the two numbers and the run are those of the bytes seen so far
pub record IsRolled (k : ℕ) (seen : List ℕ) (now : Rolled) : Type 0 where
  pub forward_is : now.forward ≡ number_from_digits 4 (map digit_of (last_window k seen))
  pub backward_is : now.backward ≡ number_from_digits 4 (reverse (map other_digit (last_window k seen)))
  pub run_is : now.run ≡ run_of k seen

-- a place in a piece whose words are taken: how words count, the bytes of the piece, and how many of them were taken
pub record Walking : Type 0 where
  pub rule : CountingRule
  pub bytes : List ℕ
  pub taken : ℕ

-- the first place, and the place after the next byte
abbrev pub at_front : CountingRule → List ℕ → Walking
at_front rule bytes = record { rule = rule; bytes = bytes; taken = 0 }

abbrev pub behind_next : Walking → Walking
behind_next walking = record { rule = walking.rule; bytes = walking.bytes; taken = walking.taken + 1 }

-- the words of the piece without those that end in the bytes taken
unfoldable pub words_left : Walking → List ℕ
words_left walking =
    drop (length (words_in walking.rule (read_of (take walking.taken walking.bytes) None)))
    (words_in walking.rule (read_of walking.bytes None))

-- no list of words is given, and the numbers and the run are those of the bytes taken
pub record IsWalking (walking : Walking) (now : Rolled) : Type 0 where
  pub rule : now.rule ≡ walking.rule
  pub unlisted : walking.rule.only ≡ None
  pub rolled : IsRolled walking.rule.k (take walking.taken walking.bytes) now
  pub short : now.run ≤ walking.taken
  pub within : walking.taken ≤ length walking.bytes
  pub fits : length walking.bytes < 2 ^ 64

-- the code of a base in either case, 4 for any other byte
abbrev pub code_of : ℕ → ℕ
code_of byte = if is_letter byte then code (to_ascii_uppercase byte) else 4

-- a byte is left at this place, and this is its code
pub record IsNext (walking : Walking) (now : Rolled) (next : ℕ) : Type 0 where
  pub walks : IsWalking walking now
  pub left : walking.taken < length walking.bytes
  pub code : next ≡ code_of (slice_index walking.bytes walking.taken)

-- the next byte was taken, and this word ends there, or none does
pub record IsTaken (walking : Walking) (now : Rolled) (word : Option ℕ) : Type 0 where
  pub walks : IsWalking (behind_next walking) now
  pub words : words_left walking ≡ option_to_list word ++ words_left (behind_next walking)
