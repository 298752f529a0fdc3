-- Batches are equal if they are the same.
use Rattle.std.proofs.Common.{◌≡◌, eqb, refl, ap, eqb-true, eq-eqb, Decides}
use Rattle.std.proofs.lemmas.Bool.{and_parts, and_from}
use Rattle.std.proofs.lemmas.Slice.Eq.{bytes_eq-Decides, slice_eq-Decides}
use Rattle.std.specs.Cmp.Lexicographic.{pointwise}
use Rattle.std.specs.Str.{bytes_eq}
use Rattle.kc_word.specs.Cutting.{NumberedPieces, is_same_batch}

-- batches are equal if their numbers and pieces are
pub is_same_batch-Decides : (batch other : NumberedPieces) → Decides (is_same_batch batch other) (batch ≡ other)
is_same_batch-Decides batch other =
    let pieces = slice_eq-Decides bytes_eq-Decides batch.pieces other.pieces
    (pointwise bytes_eq batch.pieces other.pieces) refl in (
      λ h.
          let parts = and_parts (eqb batch.number other.number) (pointwise bytes_eq batch.pieces other.pieces) h in
          let number : batch.number ≡ other.number = eqb-true batch.number other.number parts.0 in
          let same : batch.pieces ≡ other.pieces = pieces.0 parts.1 in
          λ i. record { number = number i; pieces = same i },
      λ e. and_from _ _ (eq-eqb batch.number other.number (ap (λ b. b.number) e)) (pieces.1 (ap (λ b. b.pieces) e)),
    )
