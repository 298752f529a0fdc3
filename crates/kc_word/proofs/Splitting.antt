-- Pieces that are stored one after another, and where each of them ends.
use Rattle.std.proofs.Common.{◌≡◌, ◌≢◌, ℕ, zero, suc, ◌+◌, ◌-◌, ◌<◌, ◌≤◌, ⊎_elim, Bool, false, List, [], ◌∷◌, ◌++◌, length, get_or, take, drop}
use Rattle.std.proofs.Common.{map, slice_range, refl, ap, sym, ◌∙◌, subst, arith}
use Rattle.std.proofs.lemmas.Bool.{cases_lt, cases_Bool}
use Rattle.std.proofs.lemmas.Bool.Decides.{Decides-like, same_from_decides}
use Rattle.std.proofs.lemmas.Slice.Eq.{slice_eq-Decides, bytes_eq-Decides}
use Rattle.std.proofs.lemmas.List.{get_or_read, length-append, length_push, get_or_append_left, get_or_push, ext_get_or, take_all, take-append-le, drop_at, drop-take}
use Rattle.std.proofs.lemmas.List.Sums.{sum_by_more}
use Rattle.std.proofs.Math.Seq.{take-add}
use Rattle.std.proofs.lemmas.List.FromFn.{length-map-range_with_len, get_or-map-range_with_len, map-range_with_len_more}
use Rattle.std.specs.Str.{bytes_eq}
use Rattle.std.specs.Bool.{Decides}
use Rattle.std.specs.List.{range_with_len}
use Rattle.std.specs.Cmp.Lexicographic.{pointwise}
use Rattle.kc_kmer.specs.Occurrences.{position_count}
use Rattle.kc_word.specs.Cutting.{position_total}
use Rattle.kc_word.specs.PackedBatch.{start_of, piece_at, pieces_in, AreEnds}
use Rattle.kc_word.proofs.Windows.{map-range}
use Rattle.kc_word.proofs.Clipping.{length-cut}

pub length-pieces_in : (bytes ends : List ℕ) → length (pieces_in bytes ends) ≡ length ends
unfolding pieces_in
length-pieces_in bytes ends = length-map-range_with_len (λ i. piece_at bytes ends i) 0 (length ends)

pub get_or-pieces_in : (bytes ends : List ℕ) (i : ℕ) (d : List ℕ) → i < length ends → get_or (pieces_in bytes ends) i d ≡ piece_at bytes ends i
unfolding pieces_in
get_or-pieces_in bytes ends i d h = get_or-map-range_with_len (λ j. piece_at bytes ends j) 0 (length ends) i i d h (omega arith)

pub pieces_in-none : (bytes : List ℕ) → pieces_in bytes [] ≡ []
unfolding pieces_in
pieces_in-none bytes = refl

pub AreEnds-none : AreEnds [] 0
AreEnds-none = record { rising = λ i h. absurd (omega (arith, h)); last = refl }

-- the next of the starts is the end
pub start-next : (ends : List ℕ) (i : ℕ) → start_of ends (i + 1) ≡ get_or ends i 0
start-next ends i = let next : i + 1 ≡ suc i = omega arith in ap (start_of ends) next

-- where a piece begins: at 0, or at the end of the one before
pub start-first : (ends : List ℕ) (i : ℕ) → i ≡ 0 → 0 ≡ start_of ends i
start-first ends i e = ap (start_of ends) (sym e)

pub start-later : (ends : List ℕ) (i before : ℕ) → i ≢ 0 → i < length ends → before ≡ get_or ends (i - 1) before → before ≡ start_of ends i
start-later ends i before some h read =
    let place : i - 1 + 1 ≡ i = omega (arith, some) in
    get_or_read ends (i - 1) before (omega (arith, h)) read 0 ∙ sym (start-next ends (i - 1)) ∙ ap (start_of ends) place

-- each piece begins and ends within
starts-from : (ends : List ℕ) (n m i : ℕ) → AreEnds ends n → i + m ≡ length ends → start_of ends i ≤ n
starts-from ends n zero i are e =
    let same : i ≡ length ends = omega (arith, e) in
    let here = ap (start_of ends) same ∙ are.last in
    omega (arith, here)
starts-from ends n (suc m) i are e =
    let rest = starts-from ends n m (i + 1) are (omega (arith, e)) in
    let next = start-next ends i in
    let low = are.rising i (omega (arith, e)) in
    omega (arith, rest, next, low)

pub start-within : (ends : List ℕ) (n i : ℕ) → AreEnds ends n → i ≤ length ends → start_of ends i ≤ n
start-within ends n i are h = starts-from ends n (length ends - i) i are (omega (arith, h))

pub end-within : (ends : List ℕ) (n i : ℕ) → AreEnds ends n → i < length ends → get_or ends i 0 ≤ n
end-within ends n i are h =
    let next = start-next ends i in
    let within = start-within ends n (i + 1) are (omega (arith, h)) in
    omega (arith, next, within)

pub length-piece : (bytes ends : List ℕ) (i : ℕ) → AreEnds ends (length bytes) → i < length ends
    → length (piece_at bytes ends i) ≡ get_or ends i 0 - start_of ends i
length-piece bytes ends i are h = length-cut bytes (start_of ends i) (get_or ends i 0) (are.rising i h) (end-within ends (length bytes) i are h)

-- where a piece begins and ends, as the code reads it
pub record AreBounds (bytes ends : List ℕ) (i start end : ℕ) : Type 0 where
  pub ordered : start ≤ end
  pub within : end ≤ length bytes
  pub piece_is : slice_range bytes start end ≡ get_or (pieces_in bytes ends) i []

pub bounds-read : (bytes ends : List ℕ) (i start end : ℕ) → AreEnds ends (length bytes) → i < length ends
    → start ≡ start_of ends i → end ≡ get_or ends i end → AreBounds bytes ends i start end
bounds-read bytes ends i start end are h first last =
    let read = get_or_read ends i end h last 0 in
    let rising = are.rising i h in
    let inside = end-within ends (length bytes) i are h in
    record {
      ordered = omega (arith, first, read, rising);
      within = omega (arith, read, inside);
      piece_is = ap (λ s. slice_range bytes s end) first ∙ ap (λ e. slice_range bytes (start_of ends i) e) read
          ∙ sym (get_or-pieces_in bytes ends i [] h);
    }

-- ---- one more piece

-- bytes up to an index within the first ones are theirs
front-cut : (bytes part : List ℕ) (from to : ℕ) → from ≤ to → to ≤ length bytes
    → take (to - from) (drop from (bytes ++ part)) ≡ take (to - from) (drop from bytes)
front-cut bytes part from to ordered h =
    let all : from + (to - from) ≤ length bytes = omega (arith, ordered, h) in
    sym (drop-take from (to - from) (bytes ++ part))
    ∙ ap (drop from) (take-append-le (from + (to - from)) bytes part all)
    ∙ drop-take from (to - from) bytes

-- those after the first ones are the others
back-cut : (bytes part : List ℕ)
    → take (length (bytes ++ part) - length bytes) (drop (length bytes) (bytes ++ part)) ≡ part
back-cut bytes part =
    let long = length-append bytes part in
    ap (take (length (bytes ++ part) - length bytes)) (drop_at bytes part (length bytes) refl)
    ∙ take_all (length (bytes ++ part) - length bytes) part (omega (arith, long))

start-pushed : (ends : List ℕ) (end i : ℕ) → i ≤ length ends → start_of (ends ++ end ∷ []) i ≡ start_of ends i
start-pushed ends end i h = get_or_append_left (0 ∷ ends) (end ∷ []) 0 i (omega (arith, h))

end-pushed : (ends : List ℕ) (end i : ℕ) → i < length ends → get_or (ends ++ end ∷ []) i 0 ≡ get_or ends i 0
end-pushed ends end i h = get_or_append_left ends (end ∷ []) 0 i h

last-pushed : (ends : List ℕ) (end : ℕ) → get_or (ends ++ end ∷ []) (length ends) 0 ≡ end
last-pushed ends end = get_or_push ends end 0 (length ends) refl

earlier-piece : (bytes part ends : List ℕ) (end i : ℕ) → AreEnds ends (length bytes) → i < length ends
    → piece_at (bytes ++ part) (ends ++ end ∷ []) i ≡ piece_at bytes ends i
earlier-piece bytes part ends end i are h =
    let low : i ≤ length ends = omega (arith, h) in
    ap (λ s. slice_range (bytes ++ part) s (get_or (ends ++ end ∷ []) i 0)) (start-pushed ends end i low)
    ∙ ap (λ e. slice_range (bytes ++ part) (start_of ends i) e) (end-pushed ends end i h)
    ∙ front-cut bytes part (start_of ends i) (get_or ends i 0) (are.rising i h) (end-within ends (length bytes) i are h)

last-piece : (bytes part ends : List ℕ) → AreEnds ends (length bytes)
    → piece_at (bytes ++ part) (ends ++ length (bytes ++ part) ∷ []) (length ends) ≡ part
last-piece bytes part ends are =
    ap (λ s. slice_range (bytes ++ part) s (get_or (ends ++ length (bytes ++ part) ∷ []) (length ends) 0))
    (start-pushed ends (length (bytes ++ part)) (length ends) (omega arith) ∙ are.last)
    ∙ ap (λ e. slice_range (bytes ++ part) (length bytes) e) (last-pushed ends (length (bytes ++ part)))
    ∙ back-cut bytes part

-- the bytes with others after them, and one end more
pub record IsPushed (bytes part ends all all_ends : List ℕ) : Type 0 where
  pub ends_are : AreEnds all_ends (length all)
  pub pieces_are : pieces_in all all_ends ≡ pieces_in bytes ends ++ part ∷ []

pushed-ends : (ends : List ℕ) (n end : ℕ) → AreEnds ends n → n ≤ end → AreEnds (ends ++ end ∷ []) end
pushed-ends ends n end are more = record {
  rising = λ i h. let long = length_push ends end in
      ⊎_elim
      (λ l. let start = start-pushed ends end i (omega (arith, l)) in
      let last = end-pushed ends end i l in
      let low = are.rising i l in
      omega (arith, start, last, low))
      (λ l. let same : i ≡ length ends = omega (arith, h, long, l) in
      let start = ap (start_of (ends ++ end ∷ [])) same ∙ start-pushed ends end (length ends) (omega arith) ∙ are.last in
      let last = ap (λ j. get_or (ends ++ end ∷ []) j 0) same ∙ last-pushed ends end in
      omega (arith, start, last, more))
      (cases_lt i (length ends));
  last = ap (start_of (ends ++ end ∷ [])) (length_push ends end) ∙ start-next (ends ++ end ∷ []) (length ends) ∙ last-pushed ends end;
}

pub pieces-pushed : (bytes part ends all all_ends : List ℕ) → AreEnds ends (length bytes) → all ≡ bytes ++ part
    → all_ends ≡ ends ++ length all ∷ [] → IsPushed bytes part ends all all_ends
unfolding pieces_in
pieces-pushed bytes part ends all all_ends are bytes_are ends_are =
    let long = ap length bytes_are ∙ length-append bytes part in
    let plain : all_ends ≡ ends ++ length (bytes ++ part) ∷ [] = ends_are ∙ ap (λ bs. ends ++ length bs ∷ []) bytes_are in
    record {
      ends_are = subst (λ es. AreEnds es (length all)) (sym ends_are) (pushed-ends ends (length bytes) (length all) are (omega (arith, long)));
      pieces_are =
          ap (λ bs. pieces_in bs all_ends) bytes_are ∙ ap (pieces_in (bytes ++ part)) plain
          ∙ ap (λ n. map (λ i. piece_at (bytes ++ part) (ends ++ length (bytes ++ part) ∷ []) i) (range_with_len 0 n))
          (length_push ends (length (bytes ++ part)))
          ∙ map-range_with_len_more (λ i. piece_at (bytes ++ part) (ends ++ length (bytes ++ part) ∷ []) i) 0 (length ends) (length ends) (omega arith)
          ∙ ap (λ ps. ps ++ piece_at (bytes ++ part) (ends ++ length (bytes ++ part) ∷ []) (length ends) ∷ [])
          (map-range (λ i. piece_at (bytes ++ part) (ends ++ length (bytes ++ part) ∷ []) i) (λ i. piece_at bytes ends i) 0 (length ends)
          (λ i h. earlier-piece bytes part ends (length (bytes ++ part)) i are (omega (arith, h))))
          ∙ ap (λ p. pieces_in bytes ends ++ p ∷ []) (last-piece bytes part ends are);
    }

-- ---- how many positions the first ones have

pub record IsCounted (k : ℕ) (bytes ends : List ℕ) (i count : ℕ) : Type 0 where
  pub value : count ≡ position_total k (take i (pieces_in bytes ends))
  pub most : count ≤ start_of ends i

pub IsCounted-none : (k : ℕ) (bytes ends : List ℕ) → IsCounted k bytes ends 0 0
IsCounted-none k bytes ends = record { value = refl; most = omega arith }

pub IsCounted-more : {k i count : ℕ} {bytes ends : List ℕ} (more : ℕ) → IsCounted k bytes ends i count
    → AreEnds ends (length bytes) → i < length ends → more ≡ position_count k (get_or ends i 0 - start_of ends i)
    → more ≤ get_or ends i 0 - start_of ends i → IsCounted k bytes ends (i + 1) (count + more)
IsCounted-more {k} {i} {count} {bytes} {ends} more before are h e few =
    let pieces = length-pieces_in bytes ends in
    let sum = sum_by_more (λ p. position_count k (length p)) (pieces_in bytes ends) i [] (omega (arith, pieces, h)) in
    let here = ap (λ p. position_count k (length p)) (get_or-pieces_in bytes ends i [] h) ∙ ap (position_count k) (length-piece bytes ends i are h) in
    let value = before.value in
    let most = before.most in
    let next = start-next ends i in
    let low = are.rising i h in
    record { value = omega (arith, sum, here, value, e); most = omega (arith, most, next, low, few) }

pub IsCounted-all : (k : ℕ) (bytes ends : List ℕ) (i count : ℕ) → length ends ≤ i → IsCounted k bytes ends i count
    → count ≡ position_total k (pieces_in bytes ends)
IsCounted-all k bytes ends i count h before =
    let pieces = length-pieces_in bytes ends in
    before.value ∙ ap (position_total k) (take_all i (pieces_in bytes ends) (omega (arith, pieces, h)))

-- ---- equal pieces end alike and have the same bytes

pub record AreSplitAlike (bytes others ends other_ends : List ℕ) : Type 0 where
  pub first : AreEnds ends (length bytes)
  pub second : AreEnds other_ends (length others)
  pub pieces : pieces_in bytes ends ≡ pieces_in others other_ends

same-count : (bytes others ends other_ends : List ℕ) → AreSplitAlike bytes others ends other_ends → length ends ≡ length other_ends
same-count bytes others ends other_ends s =
    sym (length-pieces_in bytes ends) ∙ ap length s.pieces ∙ length-pieces_in others other_ends

same-piece : (bytes others ends other_ends : List ℕ) (i : ℕ) → AreSplitAlike bytes others ends other_ends → i < length ends
    → piece_at bytes ends i ≡ piece_at others other_ends i
same-piece bytes others ends other_ends i s h =
    let count = same-count bytes others ends other_ends s in
    sym (get_or-pieces_in bytes ends i [] h) ∙ ap (λ ps. get_or ps i []) s.pieces ∙ get_or-pieces_in others other_ends i [] (omega (arith, count, h))

same-start : (bytes others ends other_ends : List ℕ) (i : ℕ) → AreSplitAlike bytes others ends other_ends → i ≤ length ends
    → start_of ends i ≡ start_of other_ends i
same-start bytes others ends other_ends zero s h = refl
same-start bytes others ends other_ends (suc i) s h =
    let count = same-count bytes others ends other_ends s in
    let low : i < length ends = omega (arith, h) in
    let other_low : i < length other_ends = omega (arith, low, count) in
    let before = same-start bytes others ends other_ends i s (omega (arith, h)) in
    let long = length-piece bytes ends i s.first low in
    let other_long = length-piece others other_ends i s.second other_low in
    let same = ap length (same-piece bytes others ends other_ends i s low) in
    let rising = s.first.rising i low in
    let other_rising = s.second.rising i other_low in
    omega (arith, before, long, other_long, same, rising, other_rising)

same-front : (bytes others ends other_ends : List ℕ) (i : ℕ) → AreSplitAlike bytes others ends other_ends → i ≤ length ends
    → take (start_of ends i) bytes ≡ take (start_of other_ends i) others
same-front bytes others ends other_ends zero s h = refl
same-front bytes others ends other_ends (suc i) s h =
    let low : i < length ends = omega (arith, h) in
    let count = same-count bytes others ends other_ends s in
    let other_low : i < length other_ends = omega (arith, low, count) in
    split bytes ends i (s.first.rising i low)
    ∙ ap (λ xs. xs ++ piece_at bytes ends i) (same-front bytes others ends other_ends i s (omega (arith, h)))
    ∙ ap (λ xs. take (start_of other_ends i) others ++ xs) (same-piece bytes others ends other_ends i s low)
    ∙ sym (split others other_ends i (s.second.rising i other_low))
  where
    split : (bs es : List ℕ) (j : ℕ) → start_of es j ≤ get_or es j 0 → take (get_or es j 0) bs ≡ take (start_of es j) bs ++ piece_at bs es j
    split bs es j l =
        let all : start_of es j + (get_or es j 0 - start_of es j) ≡ get_or es j 0 = omega (arith, l) in
        ap (λ n. take n bs) (sym all) ∙ take-add (start_of es j) (get_or es j 0 - start_of es j) bs

pub record AreKeptAlike (bytes others ends other_ends : List ℕ) : Type 0 where
  pub bytes_are : bytes ≡ others
  pub ends_are : ends ≡ other_ends

pub split-alike : (bytes others ends other_ends : List ℕ) → AreSplitAlike bytes others ends other_ends → AreKeptAlike bytes others ends other_ends
split-alike bytes others ends other_ends s = record {
  bytes_are =
      sym (ap (λ n. take n bytes) s.first.last ∙ take_all (length bytes) bytes (omega arith))
      ∙ same-front bytes others ends other_ends (length ends) s (omega arith)
      ∙ ap (λ n. take (start_of other_ends n) others) (same-count bytes others ends other_ends s)
      ∙ ap (λ n. take n others) s.second.last ∙ take_all (length others) others (omega arith);
  ends_are = ext_get_or 0 ends other_ends (same-count bytes others ends other_ends s) (λ i h.
      sym (start-next ends i) ∙ same-start bytes others ends other_ends (i + 1) s (omega (arith, h)) ∙ start-next other_ends i);
}

pub same-split : (bytes others ends other_ends : List ℕ) (same : Bool) → AreEnds ends (length bytes) × AreEnds other_ends (length others)
    → bytes ≡ others → Decides same (ends ≡ other_ends) → same ≡ pointwise bytes_eq (pieces_in bytes ends) (pieces_in others other_ends)
same-split bytes others ends other_ends same are e decided =
    same_from_decides same (pointwise bytes_eq (pieces_in bytes ends) (pieces_in others other_ends))
    (Decides-like same (λ r. ap (λ bs. pieces_in bs ends) e ∙ ap (pieces_in others) r)
    (λ p. (split-alike bytes others ends other_ends (record { first = are.0; second = are.1; pieces = p })).ends_are) decided)
    (slice_eq-Decides bytes_eq-Decides (pieces_in bytes ends) (pieces_in others other_ends)
    (pointwise bytes_eq (pieces_in bytes ends) (pieces_in others other_ends)) refl)

pub other-split : (bytes others ends other_ends : List ℕ) → AreEnds ends (length bytes) × AreEnds other_ends (length others)
    → (bytes ≡ others → ⊥) → false ≡ pointwise bytes_eq (pieces_in bytes ends) (pieces_in others other_ends)
other-split bytes others ends other_ends are ne =
    ⊎_elim
    (λ h. absurd (ne (split-alike bytes others ends other_ends (record {
      first = are.0;
      second = are.1;
      pieces = (slice_eq-Decides bytes_eq-Decides (pieces_in bytes ends) (pieces_in others other_ends)
          (pointwise bytes_eq (pieces_in bytes ends) (pieces_in others other_ends)) refl).0 h;
    })).bytes_are))
    (λ h. sym h)
    (cases_Bool (pointwise bytes_eq (pieces_in bytes ends) (pieces_in others other_ends)))
