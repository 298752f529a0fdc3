-- Words of DNA: lists of the letters A, C, G and T, their numbers, and their canonical forms.
-- Source: Marçais and Kingsford 2011; the canonical form is that of Jellyfish's option -C.
use Rattle.std.specs.Prelude.{ℕ, zero, suc, Bool, ◌/◌, ◌%◌, List, [], ◌∷◌, ◌++◌, map, reverse, if◌then◌else◌}
use Rattle.std.specs.Ordering.{nat_cmp, is_lt}
use Rattle.std.specs.Cmp.Lexicographic.{slice_cmp}
use Rattle.std.specs.Int.Digits.{number_from_digits}
use Rattle.kc_kmer.specs.Letter.{code, base, complement}

-- the number whose digits in base 4 are the codes of the bases, the first base highest
unfoldable pub number : List ℕ → ℕ
number word = number_from_digits 4 (map code word)

-- the word of k bases with this number: the last base is the lowest digit
unfoldable pub text : ℕ → ℕ → List ℕ
text zero n = []
text (suc k) n = text k (n / 4) ++ base (n % 4) ∷ []

-- the word on the other strand: reversed, each base complemented
unfoldable pub reverse_complement : List ℕ → List ℕ
reverse_complement word = reverse (map complement word)

-- the word or its reverse complement, whichever is first in alphabetical order
unfoldable pub canonical : List ℕ → List ℕ
canonical word = if is_lt (slice_cmp nat_cmp (reverse_complement word) word) then reverse_complement word else word

-- the form under which a word counts: the canonical one if both strands count
unfoldable pub form : Bool → List ℕ → List ℕ
form both word = if both then canonical word else word
