-- The laws of the equality of batches and of lists of words. They are proofs; they are in specs/ because an `impl` can
-- name only what is there.
use Rattle.std.specs.Cmp.{IsEquivalence, IsPartialEquivalence, partial_equiv_from_equiv, nat_eq_equiv, on_equiv}
use Rattle.std.specs.Cmp.{and_equiv, bool_eq_equiv}
use Rattle.std.specs.Cmp.Lexicographic.{nat_list_eq_equiv, lists_equiv}
use Rattle.kc_word.specs.Cutting.{NumberedPieces, is_same_batch}
use Rattle.kc_word.specs.Only.{WordList, is_same_list}

pub is_same_batch-IsEquivalence : IsEquivalence is_same_batch
is_same_batch-IsEquivalence =
    and_equiv (on_equiv (λ (b : NumberedPieces). b.number) nat_eq_equiv)
    (on_equiv (λ (b : NumberedPieces). b.pieces) (lists_equiv nat_list_eq_equiv))

pub is_same_batch-laws : IsPartialEquivalence is_same_batch
is_same_batch-laws = partial_equiv_from_equiv is_same_batch-IsEquivalence

pub is_same_list-IsEquivalence : IsEquivalence is_same_list
is_same_list-IsEquivalence =
    and_equiv (on_equiv (λ (l : WordList). l.k) nat_eq_equiv)
    (and_equiv (on_equiv (λ (l : WordList). l.both) bool_eq_equiv)
    (on_equiv (λ (l : WordList). l.words) nat_list_eq_equiv))

pub is_same_list-laws : IsPartialEquivalence is_same_list
is_same_list-laws = partial_equiv_from_equiv is_same_list-IsEquivalence
