-- Numbers on a command line: only decimal digits, and a suffix after them where one is allowed.
use Rattle.std.specs.Prelude.{ℕ, ◌-◌, ◌*◌, ◌==◌, ◌&&◌, Bool, false, nat_le, if◌then◌else◌}
use Rattle.std.specs.Prelude.{List, [], ◌∷◌, map, length, slice_get, Option, Some, None, option_map}
use Rattle.std.specs.Char.{is_ascii_digit}
use Rattle.std.specs.Ffi.{without_last}
use Rattle.std.specs.Int.Digits.{number_from_digits}
use Rattle.std.specs.List.{list_all}
use Rattle.std.specs.Option.{option_and_then}

-- the value of a decimal digit
abbrev pub digit : ℕ → ℕ
digit byte = byte - 48

-- the value of decimal digits, the highest first
abbrev pub decimal_value : List ℕ → ℕ
decimal_value digits = number_from_digits 10 (map digit digits)

-- a text of one decimal digit or more, and nothing else
abbrev pub is_number : List ℕ → Bool
is_number [] = false
is_number (byte ∷ bytes) = list_all is_ascii_digit (byte ∷ bytes)

-- the number in a text that consists of decimal digits
abbrev pub number_of : List ℕ → Option ℕ
number_of text = if is_number text then Some (decimal_value text) else None

-- the factors of the suffixes `k` (107), `M` (77) and `G` (71)
abbrev pub unit : ℕ → Option ℕ
unit byte = if byte == 107 then Some 1000 else if byte == 77 then Some 1000000
    else if byte == 71 then Some 1000000000 else None

-- the last byte of a text
abbrev pub last_byte : List ℕ → Option ℕ
last_byte text = slice_get text (length text - 1)

-- the number in a text, times the factor of its suffix if it has one
abbrev pub with_unit : Option ℕ → List ℕ → Option ℕ
with_unit None text = number_of text
with_unit (Some unit) text = option_map (λ number. number * unit) (number_of (without_last text))

-- the number in a text, with or without a suffix
abbrev pub scaled_number : List ℕ → Option ℕ
scaled_number text = with_unit (option_and_then unit (last_byte text)) text

-- a number, if it is between the bounds, inclusive
abbrev pub between : ℕ → ℕ → Option ℕ → Option ℕ
between least most None = None
between least most (Some number) = if nat_le least number && nat_le number most then Some number else None

-- the number in a text, if it is between the bounds
abbrev pub number_between : ℕ → ℕ → List ℕ → Option ℕ
number_between least most text = between least most (number_of text)

-- the same if the text may have a suffix
abbrev pub scaled_between : ℕ → ℕ → List ℕ → Option ℕ
scaled_between least most text = between least most (scaled_number text)
