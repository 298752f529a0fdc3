-- Cleaned pieces, and how they are cut into numbered batches with equally many positions.
-- Source: this project's own; a batch is what one worker counts at a time.
use Rattle.std.specs.Prelude.{◌≡◌, ℕ, Bool, ◌+◌, ◌-◌, ◌*◌, ◌/◌, ◌==◌, ◌&&◌, ◌||◌, nat_lt, min, List, [], ◌∷◌}
use Rattle.std.specs.Prelude.{length, map, take, slice_range, slice_index, slice_index_or, None, if◌then◌else◌}
use Rattle.std.specs.Prelude.{sum_by}
use Rattle.std.specs.List.{range_with_len, list_all, flat_map}
use Rattle.std.specs.Cmp.Lexicographic.{pointwise}
use Rattle.std.specs.Str.{bytes_eq}
use Rattle.std.specs.Char.{to_ascii_uppercase}
use Rattle.kc_fastx.specs.Reads.{Read, read_of}
use Rattle.kc_kmer.specs.Letter.{is_base}
use Rattle.kc_kmer.specs.Rule.{CountingRule}
use Rattle.kc_kmer.specs.Occurrences.{is_usable, position_count, occurrences, words_of}

-- the letter N, in place of a base that is not usable
abbrev pub unusable : ℕ
unusable = 78

-- a byte of a piece: a base or N
abbrev pub is_piece_byte : ℕ → Bool
is_piece_byte byte = is_base byte || byte == unusable

abbrev pub are_piece_bytes : List ℕ → Bool
are_piece_bytes bytes = list_all is_piece_byte bytes

-- base j of a read in its piece: in upper case if it is usable, otherwise N
abbrev pub cleaned_base : CountingRule → Read → ℕ → ℕ
cleaned_base rule read j = if is_usable rule read j then to_ascii_uppercase (slice_index read.bases j) else unusable

-- the piece of a read
unfoldable pub cleaned : CountingRule → Read → List ℕ
cleaned rule read = map (λ j. cleaned_base rule read j) (range_with_len 0 (length read.bases))

-- pieces, each as a read without qualities
abbrev pub as_reads : List (List ℕ) → List Read
as_reads pieces = map (λ piece. read_of piece None) pieces

-- a batch: its number, and its pieces
pub record NumberedPieces : Type 0 where
  pub number : ℕ
  pub pieces : List (List ℕ)

-- the positions from p to before q of a piece, as one piece: the bytes from p to the end of the last word; no piece if
-- there is no such position
unfoldable pub stretch : ℕ → List ℕ → ℕ → ℕ → List (List ℕ)
stretch k piece p q = if nat_lt p q then slice_range piece p (q + k - 1) ∷ [] else []

-- how many positions the pieces have
abbrev pub position_total : ℕ → List (List ℕ) → ℕ
position_total k pieces = sum_by (λ piece. position_count k (length piece)) pieces

-- The positions of all pieces are numbered in order: the number of the first position of piece j is the number of
-- positions in the pieces before it.
abbrev pub first_position : ℕ → List (List ℕ) → ℕ → ℕ
first_position k pieces j = position_total k (take j pieces)

-- the part of a piece whose first position has the number `first`: its positions with numbers from `low` to before
-- `high`
abbrev pub stretch_of : ℕ → ℕ → ℕ → List ℕ → ℕ → List (List ℕ)
stretch_of k low high piece first =
    stretch k piece (low - first) (min (position_count k (length piece)) (high - first))

-- these parts of all pieces
unfoldable pub stretches : ℕ → ℕ → ℕ → List (List ℕ) → List (List ℕ)
stretches k low high pieces =
    flat_map (λ j. stretch_of k low high (slice_index_or pieces j []) (first_position k pieces j))
    (range_with_len 0 (length pieces))

-- how many batches of `size` positions there are; the last may have fewer
abbrev pub batch_count : ℕ → ℕ → List (List ℕ) → ℕ
batch_count k size pieces = (position_total k pieces + size - 1) / size

-- batch i: the positions with the numbers from i * size to before (i + 1) * size
abbrev pub batch_of : ℕ → ℕ → List (List ℕ) → ℕ → NumberedPieces
batch_of k size pieces i = record { number = i; pieces = stretches k (i * size) ((i + 1) * size) pieces }

-- all batches of a cutting, in order
unfoldable pub cutting : ℕ → ℕ → List (List ℕ) → List NumberedPieces
cutting k size pieces = map (λ i. batch_of k size pieces i) (range_with_len 0 (batch_count k size pieces))

-- each word occurs in all batches together as often as in the pieces
abbrev pub KeepsOccurrences : ℕ → List (List ℕ) → List NumberedPieces → Type 0
KeepsOccurrences k pieces batches = (rule : CountingRule) (word : List ℕ) → rule.k ≡ k
    → sum_by (λ batch. occurrences rule (as_reads batch.pieces) word) batches ≡ occurrences rule (as_reads pieces) word

-- the words of the batches, batch after batch, are the words of the pieces
abbrev pub KeepsWords : ℕ → List (List ℕ) → List NumberedPieces → Type 0
KeepsWords k pieces batches = (rule : CountingRule) → rule.k ≡ k
    → flat_map (λ batch. words_of rule (as_reads batch.pieces)) batches ≡ words_of rule (as_reads pieces)

-- whether two pieces have the same bytes, and two batches the same number and pieces
abbrev pub is_same_piece : List ℕ → List ℕ → Bool
is_same_piece piece other = bytes_eq piece other

abbrev pub are_same_pieces : List (List ℕ) → List (List ℕ) → Bool
are_same_pieces pieces others = pointwise bytes_eq pieces others

abbrev pub is_same_batch : NumberedPieces → NumberedPieces → Bool
is_same_batch batch other = (batch.number == other.number) && pointwise bytes_eq batch.pieces other.pieces
