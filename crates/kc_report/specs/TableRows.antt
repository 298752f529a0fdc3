-- Reading the rows of a table text: source, our formats page ("The table text").
use Rattle.std.specs.Prelude.{◌≡◌, ℕ, ◌+◌, ◌*◌, ◌/◌, ◌%◌, ◌^◌, ◌<◌, ◌≤◌, List, [], ◌∷◌, ◌++◌, length, take, decimal}
use Rattle.std.specs.Prelude.{slice_index, if◌then◌else◌, true}
use Rattle.std.specs.Str.Parse.{AllDigits, digits_value}
use Rattle.std.specs.Char.{digit_value}
use Rattle.kc_kmer.specs.Letter.{is_base, are_bases, code, base}
use Rattle.kc_kmer.specs.Word.{number}
use Rattle.kc_report.specs.Bytes.{line_feed, space}

-- the code of a base's capital letter, 4 for any other byte
abbrev pub capital_code : ℕ → ℕ
capital_code byte = if is_base byte then code byte else 4

-- the letters of four bases with these codes as a number, the first letter lowest and the first code highest
abbrev pub four_letters : ℕ → ℕ
four_letters codes =
    base (codes / 64 % 4) + 256 * base (codes / 16 % 4) + 65536 * base (codes / 4 % 4) + 16777216 * base (codes % 4)

-- the letters are capital ones of bases, and this is their number
pub record IsSpelled (letters : List ℕ) (n : ℕ) : Type 0 where
  pub bases : are_bases letters ≡ true
  pub value : n ≡ number letters

-- a count as part of a row: after a blank, and before the line feed
abbrev pub count_text : ℕ → List ℕ
count_text count = space ∷ decimal count ++ line_feed ∷ []

-- The bytes begin with `many` digits, and no digit follows them. The number is the one that they write, modulo 2^64.
pub record HasDigits (bytes : List ℕ) (number many : ℕ) : Type 0 where
  pub within : many ≤ length bytes
  pub digits : AllDigits 10 (take many bytes)
  pub value : number ≡ digits_value 10 (take many bytes) % 2 ^ 64
  pub last : many < length bytes → 10 ≤ digit_value (slice_index bytes many)
