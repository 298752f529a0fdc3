-- What stretches are if no position is left, and if one more piece comes.
use Rattle.std.proofs.Common.{◌≡◌, ℕ, zero, suc, ◌+◌, ◌-◌, ◌<◌, ◌≤◌, min, List, [], ◌∷◌, ◌++◌, length, take, drop, slice_range, refl, ap, sym, ◌∙◌, arith, append_assoc}
use Rattle.std.proofs.lemmas.Bool.{cond-true, cond-false, lt-ltb, le-ltb}
use Rattle.std.proofs.lemmas.List.{append-nil}
use Rattle.std.proofs.lemmas.List.Sums.{sum_by-cons}
use Rattle.kc_kmer.specs.Occurrences.{position_count}
use Rattle.kc_word.specs.Cutting.{stretch, stretches, position_total}
use Rattle.kc_word.proofs.Stretches.{stretches_from, stretches-are}

pub stretch-empty : (k : ℕ) (piece : List ℕ) (p q : ℕ) → q ≤ p → stretch k piece p q ≡ []
unfolding stretch
stretch-empty k piece p q h = cond-false _ (slice_range piece p (q + k - 1) ∷ []) [] (le-ltb p q h)

-- what lies before the first number is skipped
pub stretches-skip : (k low high first index : ℕ) (pieces : List (List ℕ)) → first + position_total k (take index pieces) ≤ low
    → stretches_from k low high first pieces ≡ stretches_from k low high (first + position_total k (take index pieces)) (drop index pieces)
unfolding stretches_from
stretches-skip k low high first zero pieces h = ap (λ n. stretches_from k low high n pieces) (omega arith)
stretches-skip k low high first (suc index) [] h = refl
stretches-skip k low high first (suc index) (piece ∷ pieces) h =
    let sum = sum_by-cons (λ p. position_count k (length p)) piece (take index pieces) in
    ap (λ xs. xs ++ stretches_from k low high (first + position_count k (length piece)) pieces)
    (stretch-empty k piece (low - first) (min (position_count k (length piece)) (high - first)) (omega (arith, h, sum)))
    ∙ stretches-skip k low high (first + position_count k (length piece)) index pieces (omega (arith, h, sum))
    ∙ ap (λ n. stretches_from k low high n (drop index pieces)) (omega (arith, sum))

-- from one number to itself nothing is taken
pub stretches-none : (k low high first : ℕ) (pieces : List (List ℕ)) → high ≤ low → stretches_from k low high first pieces ≡ []
unfolding stretches_from
stretches-none k low high first [] h = refl
stretches-none k low high first (piece ∷ pieces) h =
    ap (λ xs. xs ++ stretches_from k low high (first + position_count k (length piece)) pieces)
    (stretch-empty k piece (low - first) (min (position_count k (length piece)) (high - first)) (omega (arith, h)))
    ∙ stretches-none k low high (first + position_count k (length piece)) pieces h

pub stretches-nil : (k low high first : ℕ) → stretches_from k low high first [] ≡ []
unfolding stretches_from
stretches-nil k low high first = refl

-- the stretches of joined pieces are those of both
stretches-append : (k low high first : ℕ) (pieces more : List (List ℕ)) → stretches_from k low high first (pieces ++ more)
    ≡ stretches_from k low high first pieces ++ stretches_from k low high (first + position_total k pieces) more
unfolding stretches_from
stretches-append k low high first [] more = ap (λ n. stretches_from k low high n more) (omega arith)
stretches-append k low high first (piece ∷ pieces) more =
    let sum = sum_by-cons (λ p. position_count k (length p)) piece pieces in
    ap (λ xs. stretch k piece (low - first) (min (position_count k (length piece)) (high - first)) ++ xs)
    (stretches-append k low high (first + position_count k (length piece)) pieces more
    ∙ ap (λ n. stretches_from k low high (first + position_count k (length piece)) pieces ++ stretches_from k low high n more) (omega (arith, sum)))
    ∙ sym (append_assoc (stretch k piece (low - first) (min (position_count k (length piece)) (high - first)))
    (stretches_from k low high (first + position_count k (length piece)) pieces)
    (stretches_from k low high (first + position_total k (piece ∷ pieces)) more))

-- with one more piece they are those of the pieces before it, and its own
pub stretches-push : (k low high : ℕ) (pieces : List (List ℕ)) (piece : List ℕ) → stretches k low high (pieces ++ piece ∷ [])
    ≡ stretches k low high pieces
    ++ stretch k piece (low - position_total k pieces) (min (position_count k (length piece)) (high - position_total k pieces))
unfolding stretches_from
stretches-push k low high pieces piece =
    stretches-are k low high (pieces ++ piece ∷ []) ∙ stretches-append k low high 0 pieces (piece ∷ [])
    ∙ ap (λ xs. xs ++ stretches_from k low high (0 + position_total k pieces) (piece ∷ [])) (sym (stretches-are k low high pieces))
    ∙ ap (λ xs. stretches k low high pieces ++ xs)
    (append-nil (stretch k piece (low - (0 + position_total k pieces)) (min (position_count k (length piece)) (high - (0 + position_total k pieces))))
    ∙ ap (λ n. stretch k piece (low - n) (min (position_count k (length piece)) (high - n))) (omega arith))

-- after the last position it is the same if the taking ends
stretches-wide : (k low high other first : ℕ) (pieces : List (List ℕ)) → first + position_total k pieces ≤ high
    → first + position_total k pieces ≤ other → stretches_from k low high first pieces ≡ stretches_from k low other first pieces
unfolding stretches_from
stretches-wide k low high other first [] h g = refl
stretches-wide k low high other first (piece ∷ pieces) h g =
    let sum = sum_by-cons (λ p. position_count k (length p)) piece pieces in
    ap (λ n. stretch k piece (low - first) n ++ stretches_from k low high (first + position_count k (length piece)) pieces) (omega (arith, h, g, sum))
    ∙ ap (λ xs. stretch k piece (low - first) (min (position_count k (length piece)) (other - first)) ++ xs)
    (stretches-wide k low high other (first + position_count k (length piece)) pieces (omega (arith, h, sum)) (omega (arith, g, sum)))

pub stretches-all : (k low high other : ℕ) (pieces : List (List ℕ)) → position_total k pieces ≤ high → position_total k pieces ≤ other
    → stretches k low high pieces ≡ stretches k low other pieces
stretches-all k low high other pieces h g =
    stretches-are k low high pieces ∙ stretches-wide k low high other 0 pieces (omega (arith, h)) (omega (arith, g))
    ∙ sym (stretches-are k low other pieces)

pub stretch-some : (k : ℕ) (piece : List ℕ) (p q : ℕ) → p < q → stretch k piece p q ≡ slice_range piece p (q + k - 1) ∷ []
unfolding stretch
stretch-some k piece p q h = cond-true _ (slice_range piece p (q + k - 1) ∷ []) [] (lt-ltb p q h)
