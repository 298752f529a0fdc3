-- A cutting of pieces that arrive one at a time: the whole batches, and the one that is begun.
use Rattle.std.specs.Prelude.{◌≡◌, ℕ, ◌+◌, ◌*◌, ◌≤◌, List, [], ◌∷◌, ◌++◌, length, map}
use Rattle.std.specs.List.{range_with_len}
use Rattle.kc_kmer.specs.Occurrences.{position_count}
use Rattle.kc_word.specs.Cutting.{NumberedPieces, position_total, stretches, batch_of}

-- the length of the words, the number of positions in a batch, the whole batches, and the pieces and the number of
-- positions of the one that is begun
pub record OpenCutting : Type 0 where
  pub k : ℕ
  pub size : ℕ
  pub batches : List NumberedPieces
  pub begun : List (List ℕ)
  pub filled : ℕ

-- the cutting has cut the first `count` positions of these pieces: the whole batches are the first ones of the pieces'
-- cutting, and the one that is begun has the positions after them
pub record HasCut (cutting : OpenCutting) (pieces : List (List ℕ)) (count : ℕ) : Type 0 where
  pub whole : cutting.batches
      ≡ map (λ i. batch_of cutting.k cutting.size pieces i) (range_with_len 0 (length cutting.batches))
  pub rest : cutting.begun ≡ stretches cutting.k (length cutting.batches * cutting.size) count pieces
  pub number : length cutting.batches * cutting.size + cutting.filled ≡ count

-- the cutting has taken these pieces: it has cut all of their positions
abbrev pub HasTaken : OpenCutting → List (List ℕ) → Type 0
HasTaken cutting pieces = HasCut cutting pieces (position_total cutting.k pieces)

-- the cutting has taken these pieces, and some first positions of one more piece
abbrev pub HasTakenFront : OpenCutting → List (List ℕ) → List ℕ → Type 0
HasTakenFront cutting pieces piece =
    (count : ℕ) × (count ≤ position_count cutting.k (length piece))
    × HasCut cutting (pieces ++ piece ∷ []) (position_total cutting.k pieces + count)
