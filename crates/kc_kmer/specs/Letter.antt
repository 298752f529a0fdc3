-- The four bases of DNA: their letters, their codes and their partners on the other strand.
-- Source: the two-bit codes A 0, C 1, G 2, T 3 of the Jellyfish paper (Marçais and Kingsford 2011); Watson and Crick's
-- pairs A T and C G.
use Rattle.std.specs.Prelude.{ℕ, Bool, ◌==◌, ◌||◌, List, if◌then◌else◌}
use Rattle.std.specs.List.{list_all}

-- the letters of adenine, cytosine, guanine and thymine
abbrev pub adenine : ℕ
adenine = 65

abbrev pub cytosine : ℕ
cytosine = 67

abbrev pub guanine : ℕ
guanine = 71

abbrev pub thymine : ℕ
thymine = 84

-- whether a byte is one of A, C, G and T
unfoldable pub is_base : ℕ → Bool
is_base byte = byte == adenine || byte == cytosine || byte == guanine || byte == thymine

-- whether all bytes are
abbrev pub are_bases : List ℕ → Bool
are_bases bytes = list_all is_base bytes

-- the code of a base: A 0, C 1, G 2, T 3
unfoldable pub code : ℕ → ℕ
code base = if base == adenine then 0 else (if base == cytosine then 1 else (if base == guanine then 2 else 3))

-- the base that has a code
unfoldable pub base : ℕ → ℕ
base n = if n == 0 then adenine else (if n == 1 then cytosine else (if n == 2 then guanine else thymine))

-- the base opposite, on the other strand
unfoldable pub complement : ℕ → ℕ
complement letter =
    if letter == adenine then thymine
    else (if letter == cytosine then guanine else (if letter == guanine then cytosine else adenine))
