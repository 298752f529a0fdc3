-- The stretches of pieces with a running number, along which the code goes: `first` is the number of the first position
-- of the first piece.
use Rattle.std.proofs.Common.{◌≡◌, ℕ, zero, suc, ◌+◌, ◌-◌, min, List, [], ◌∷◌, ◌++◌, length, get_or, map, take, refl, ap, sym, ◌∙◌, arith, add_assoc, zero-add}
use Rattle.std.specs.List.{range_with_len, flat_map}
use Rattle.std.proofs.lemmas.List.Sums.{sum_by-cons}
use Rattle.kc_lemmas.proofs.Lists.{flat_map-same}
use Rattle.kc_kmer.specs.Occurrences.{position_count}
use Rattle.kc_word.specs.Cutting.{stretch, stretch_of, stretches, position_total, first_position}

unfoldable pub stretches_from : ℕ → ℕ → ℕ → ℕ → List (List ℕ) → List (List ℕ)
stretches_from k low high first [] = []
stretches_from k low high first (piece ∷ pieces) =
    stretch k piece (low - first) (min (position_count k (length piece)) (high - first))
    ++ stretches_from k low high (first + position_count k (length piece)) pieces

-- piece j, if the first position of the first piece has the number `first`
part_at : ℕ → ℕ → ℕ → ℕ → List (List ℕ) → ℕ → List (List ℕ)
part_at k low high first pieces j =
    stretch k (get_or pieces j []) (low - (first + position_total k (take j pieces)))
    (min (position_count k (length (get_or pieces j []))) (high - (first + position_total k (take j pieces))))

range-suc : (a n : ℕ) → range_with_len (a + 1) n ≡ map suc (range_with_len a n)
range-suc a zero = refl
range-suc a (suc n) = let next : a + 1 ≡ suc a = omega arith in ap (λ m. m ∷ range_with_len (a + 1 + 1) n) next ∙ ap (λ xs. suc a ∷ xs) (range-suc (a + 1) n)

flat_map-suc : {X : Type 0} (f : ℕ → List X) (g : ℕ → List X) → ((j : ℕ) → f (suc j) ≡ g j) → (xs : List ℕ) → flat_map f (map suc xs) ≡ flat_map g xs
flat_map-suc f g same [] = refl
flat_map-suc f g same (x ∷ xs) = ap (λ ys. ys ++ flat_map f (map suc xs)) (same x) ∙ ap (λ ys. g x ++ ys) (flat_map-suc f g same xs)

stretches_from-parts : (k low high first : ℕ) (pieces : List (List ℕ)) → stretches_from k low high first pieces ≡ flat_map (part_at k low high first pieces) (range_with_len 0 (length pieces))
unfolding stretches_from part_at
stretches_from-parts k low high first [] = refl
stretches_from-parts k low high first (piece ∷ pieces) =
    let same : (j : ℕ) → part_at k low high first (piece ∷ pieces) (suc j) ≡ part_at k low high (first + position_count k (length piece)) pieces j = λ j.
    ap (λ n. stretch k (get_or pieces j []) (low - n) (min (position_count k (length (get_or pieces j []))) (high - n)))
    (ap (λ n. first + n) (sum_by-cons (λ p. position_count k (length p)) piece (take j pieces)) ∙ sym (add_assoc first (position_count k (length piece)) (position_total k (take j pieces)))) in
    let here : first ≡ first + 0 = omega arith in
    ap (λ n. stretch k piece (low - n) (min (position_count k (length piece)) (high - n)) ++ stretches_from k low high (first + position_count k (length piece)) pieces) here
    ∙ ap (λ xs. part_at k low high first (piece ∷ pieces) 0 ++ xs)
    (stretches_from-parts k low high (first + position_count k (length piece)) pieces
    ∙ sym (flat_map-suc (part_at k low high first (piece ∷ pieces)) (part_at k low high (first + position_count k (length piece)) pieces) same (range_with_len 0 (length pieces)))
    ∙ ap (flat_map (part_at k low high first (piece ∷ pieces))) (sym (range-suc 0 (length pieces))))

-- without a running number they are the same
pub stretches-are : (k low high : ℕ) (pieces : List (List ℕ)) → stretches k low high pieces ≡ stretches_from k low high 0 pieces
unfolding stretches part_at
stretches-are k low high pieces =
    flat_map-same (λ j. stretch_of k low high (get_or pieces j []) (first_position k pieces j)) (part_at k low high 0 pieces) (range_with_len 0 (length pieces)) (λ i d h.
    let j : ℕ = get_or (range_with_len 0 (length pieces)) i d in
    ap (λ n. stretch k (get_or pieces j []) (low - n) (min (position_count k (length (get_or pieces j []))) (high - n))) (sym (zero-add (first_position k pieces j))))
    ∙ sym (stretches_from-parts k low high 0 pieces)
