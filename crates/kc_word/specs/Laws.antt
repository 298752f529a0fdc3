-- Facts about cleaned reads and cuttings, for all reads.
use Rattle.std.specs.Prelude.{◌≡◌, ℕ, ◌-◌, ◌*◌, min, ◌<◌, ◌≤◌, List, map, length, slice_index_or, sum_by}
use Rattle.std.specs.List.{flat_map}
use Rattle.kc_fastx.specs.Reads.{Read}
use Rattle.kc_kmer.specs.Rule.{CountingRule}
use Rattle.kc_kmer.specs.Occurrences.{occurrences, words_of}
use Rattle.kc_word.specs.Cutting.{as_reads, cleaned, cutting, NumberedPieces, batch_of, position_total}

-- the words of all batches of a cutting of cleaned reads are the words of the reads, each position once and in order
abbrev pub CuttingWords : Type 0
CuttingWords = (rule : CountingRule) (size : ℕ) (reads : List Read) → 1 ≤ rule.k → 1 ≤ size
    → flat_map (λ batch. words_of rule (as_reads batch.pieces))
    (cutting rule.k size (map (λ read. cleaned rule read) reads)) ≡ words_of rule reads

-- each word occurs in all batches together as often as in the reads
abbrev pub CuttingOccurrences : Type 0
CuttingOccurrences = (rule : CountingRule) (size : ℕ) (reads : List Read) (word : List ℕ) → 1 ≤ rule.k → 1 ≤ size
    → sum_by (λ batch. occurrences rule (as_reads batch.pieces) word)
    (cutting rule.k size (map (λ read. cleaned rule read) reads)) ≡ occurrences rule reads word

-- element i of a cutting is batch i
abbrev pub CuttingNumbers : Type 0
CuttingNumbers = (k size i : ℕ) (pieces : List (List ℕ)) (d : NumberedPieces) → i < length (cutting k size pieces)
    → slice_index_or (cutting k size pieces) i d ≡ batch_of k size pieces i

-- the batches of a cutting together have as many positions as the pieces
abbrev pub CuttingPositions : Type 0
CuttingPositions = (k size : ℕ) (pieces : List (List ℕ)) → 1 ≤ k → 1 ≤ size
    → sum_by (λ batch. position_total k batch.pieces) (cutting k size pieces) ≡ position_total k pieces

-- batch i of a cutting has `size` positions, or those that the batches before it left, and at least one
abbrev pub BatchPositions : Type 0
BatchPositions = (k size i : ℕ) (pieces : List (List ℕ)) → 1 ≤ k → 1 ≤ size → i < length (cutting k size pieces)
    → (position_total k (batch_of k size pieces i).pieces ≡ min size (position_total k pieces - i * size))
    × (1 ≤ position_total k (batch_of k size pieces i).pieces)

-- pieces have at most as many positions as bytes
abbrev pub PositionsWithinBytes : Type 0
PositionsWithinBytes = (k : ℕ) (pieces : List (List ℕ)) → 1 ≤ k
    → position_total k pieces ≤ sum_by (λ piece. length piece) pieces

-- a read's piece is as long as the read
abbrev pub CleanedLength : Type 0
CleanedLength = (rule : CountingRule) (read : Read) → length (cleaned rule read) ≡ length read.bases

-- the pieces of reads have the same words as the reads
abbrev pub CleanedWords : Type 0
CleanedWords = (rule : CountingRule) (reads : List Read)
    → words_of rule (as_reads (map (λ read. cleaned rule read) reads)) ≡ words_of rule reads
