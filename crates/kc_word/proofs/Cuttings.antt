-- The contents of a cutting: batch by batch the windows of the pieces, each once and in order.
use Rattle.std.proofs.Common.{◌≡◌, ℕ, zero, suc, ◌+◌, ◌-◌, ◌*◌, ◌/◌, ◌<◌, ◌≤◌, min, ⊎_elim, ◌⊎◌, inl, inr, Bool, false, cond, List, [], ◌∷◌, ◌++◌, length, get_or, take, drop, None, filter_map, sum_by, count_by, refl, ap, sym, ◌∙◌, arith, le-div_iff_mul-le, div-add-mod', mod-lt}
use Rattle.std.proofs.lemmas.Bool.{cases_lt, cond-true, cond-false, lt-ltb, le-ltb}
use Rattle.std.proofs.lemmas.List.{length-append, length-take, length-drop, length-take-le, take-take, drop-drop, drop-take, take_all, take-append-drop, drop_all, same_lists, get_or-take, get_or-drop, append-nil, take_min}
use Rattle.std.proofs.lemmas.List.FromFn.{length-map-range_with_len, get_or-map-range_with_len}
use Rattle.std.proofs.lemmas.List.Elements.{filter_map-append}
use Rattle.std.proofs.lemmas.List.Concat.{flat_map-append}
use Rattle.std.proofs.lemmas.List.Folds.{flat_map-map, fold-map}
use Rattle.std.proofs.lemmas.List.Sums.{sum_by-le-sum_by, sum_by-cons, sum_by-append}
use Rattle.std.specs.List.{range_with_len, flat_map}
use Rattle.std.specs.Option.{option_map_or}
use Rattle.std.specs.Str.{bytes_eq}
use Rattle.kc_fastx.specs.Reads.{read_of}
use Rattle.kc_kmer.specs.Rule.{CountingRule}
use Rattle.kc_kmer.specs.Occurrences.{position_count, counts_under, occurrences_in, occurrences, words_of}
use Rattle.kc_word.specs.Cutting.{as_reads, NumberedPieces, stretch, position_total, batch_count, batch_of, cutting}
use Rattle.kc_word.proofs.Stretches.{stretches_from, stretches-are}
use Rattle.kc_lemmas.proofs.Lists.{take-append, drop-append, length-filter_map, flat_map-range_more}
use Rattle.kc_word.proofs.Windows.{counted_word, windows, words_in-windows, counted_form, counted_at-window}

-- ---- joined lists, cut

-- the part from low to before high
pub cut : {X : Type 0} → ℕ → ℕ → List X → List X
cut low high xs = drop low (take high xs)

cut-is : {X : Type 0} (low high : ℕ) (xs : List X) → cut low high xs ≡ drop low (take high xs)
unfolding cut
cut-is low high xs = refl

cut-min : {X : Type 0} (low count high : ℕ) (xs : List X) → length xs ≡ count → cut low (min count high) xs ≡ cut low high xs
unfolding cut
cut-min low count high xs e = ap (λ m. drop low (take m xs)) (turned ∙ ap (min high) (sym e)) ∙ ap (drop low) (take_min high xs)
  where
    turned : min count high ≡ min high count
    turned = omega arith

cut-append : {X : Type 0} (low high : ℕ) (xs ys : List X) → cut low high (xs ++ ys) ≡ cut low high xs ++ cut (low - length xs) (high - length xs) ys
unfolding cut
cut-append low high xs ys =
    ap (drop low) (take-append high xs ys) ∙ drop-append low (take high xs) (take (high - length xs) ys)
    ∙ ap (λ zs. drop low (take high xs) ++ zs) (rest (cases_lt high (length xs)))
  where
    rest : (high < length xs) ⊎ (length xs ≤ high) → drop (low - length (take high xs)) (take (high - length xs) ys) ≡ drop (low - length xs) (take (high - length xs) ys)
    rest (inl h) = ap (drop (low - length (take high xs))) (nothing (high - length xs) (omega (arith, h))) ∙ drop_all _ [] (omega arith) ∙ sym (ap (drop (low - length xs)) (nothing (high - length xs) (omega (arith, h))) ∙ drop_all _ [] (omega arith))
      where
        nothing : (m : ℕ) → m ≡ 0 → take m ys ≡ []
        nothing m e = ap (λ j. take j ys) e
    rest (inr h) = ap (λ m. drop (low - m) (take (high - length xs) ys)) (let long = length-take high xs in omega (arith, long, h))

-- ---- the windows of a part of a piece

length-windows : (k : ℕ) (bytes : List ℕ) → length (windows k bytes) ≡ position_count k (length bytes)
unfolding windows
length-windows k bytes = length-map-range_with_len (λ p. take k (drop p bytes)) 0 (position_count k (length bytes))

get_or-windows : (k : ℕ) (bytes : List ℕ) (p : ℕ) (d : List ℕ) → p < position_count k (length bytes) → get_or (windows k bytes) p d ≡ take k (drop p bytes)
unfolding windows
get_or-windows k bytes p d h = get_or-map-range_with_len (λ j. take k (drop j bytes)) 0 (position_count k (length bytes)) p p d h (omega arith)

length-part : (k : ℕ) (piece : List ℕ) (p q : ℕ) → 1 ≤ k → p < q → q ≤ position_count k (length piece) → length (take (q + k - 1 - p) (drop p piece)) ≡ q + k - 1 - p
length-part k piece p q some h most =
    let rest = length-drop p piece in
    length-take-le (q + k - 1 - p) (drop p piece) (omega (arith, rest, some, h, most))

windows-part : (k : ℕ) (piece : List ℕ) (p q : ℕ) → 1 ≤ k → p < q → q ≤ position_count k (length piece) → windows k (take (q + k - 1 - p) (drop p piece)) ≡ cut p q (windows k piece)
unfolding cut
windows-part k piece p q some h most =
    let long = length-part k piece p q some h most in
    let left : length (windows k (take (q + k - 1 - p) (drop p piece))) ≡ q - p = length-windows k (take (q + k - 1 - p) (drop p piece)) ∙ omega (arith, long, some, h) in
    let whole = length-windows k piece in
    let front = length-take-le q (windows k piece) (omega (arith, whole, most)) in
    let right : length (drop p (take q (windows k piece))) ≡ q - p = length-drop p (take q (windows k piece)) ∙ ap (λ n. n - p) front in
    same_lists (windows k (take (q + k - 1 - p) (drop p piece))) (drop p (take q (windows k piece))) (left ∙ sym right) (λ j d l.
    let inside : j < q - p = omega (arith, left, l) in
    let m : ℕ = q + k - 1 - p - j in
    get_or-windows k (take (q + k - 1 - p) (drop p piece)) j d (omega (arith, long, some, h, inside))
    ∙ ap (λ n. take k (drop j (take n (drop p piece)))) (split j (q + k - 1 - p) (omega (arith, some, inside)))
    ∙ ap (take k) (drop-take j (q + k - 1 - p - j) (drop p piece))
    ∙ take-take k (q + k - 1 - p - j) (drop j (drop p piece)) (omega (arith, some, inside))
    ∙ ap (take k) (drop-drop j p piece)
    ∙ sym (get_or-drop p (take q (windows k piece)) j d ∙ get_or-take q (windows k piece) (p + j) d (omega (arith, inside)) ∙ get_or-windows k piece (p + j) d (omega (arith, inside, most))))
  where
    split : (a b : ℕ) → a ≤ b → b ≡ a + (b - a)
    split a b l = omega (arith, l)

cut-empty : {X : Type 0} (low high : ℕ) (xs : List X) → high ≤ low → cut low high xs ≡ []
unfolding cut
cut-empty low high xs h = drop_all low (take high xs) (let long = length-take high xs in omega (arith, long, h))

stretch-windows : (k : ℕ) (piece : List ℕ) (p q : ℕ) → 1 ≤ k → q ≤ position_count k (length piece) → flat_map (λ part. windows k part) (stretch k piece p q) ≡ cut p q (windows k piece)
unfolding stretch
stretch-windows k piece p q some most =
    ⊎_elim
    (λ h. ap (flat_map (λ part. windows k part)) (cond-true _ (take (q + k - 1 - p) (drop p piece) ∷ []) [] (lt-ltb p q h)) ∙ append-nil (windows k (take (q + k - 1 - p) (drop p piece))) ∙ windows-part k piece p q some h most)
    (λ h. ap (flat_map (λ part. windows k part)) (cond-false _ (take (q + k - 1 - p) (drop p piece) ∷ []) [] (le-ltb p q h)) ∙ sym (cut-empty p q (windows k piece) h))
    (cases_lt p q)

-- the windows of the stretches are those of the pieces, from one number to before another
pub stretches-windows : (k low high first : ℕ) (pieces : List (List ℕ)) → 1 ≤ k → flat_map (λ part. windows k part) (stretches_from k low high first pieces) ≡ cut (low - first) (high - first) (flat_map (λ piece. windows k piece) pieces)
unfolding stretches_from
stretches-windows k low high first [] some = sym (nothing (low - first) (high - first))
  where
    unfolded : {X : Type 0} (a b : ℕ) → cut {X = X} a b [] ≡ drop a (take b [])
    unfolded a b = cut-is a b []

    nothing : (a b : ℕ) → cut {X = List ℕ} a b [] ≡ []
    nothing a b = unfolded a b ∙ ap (drop a) (take_all b [] (omega arith)) ∙ drop_all a [] (omega arith)
stretches-windows k low high first (piece ∷ pieces) some =
    let count : ℕ = position_count k (length piece) in
    let long = length-windows k piece in
    flat_map-append (λ part. windows k part) (stretch k piece (low - first) (min (position_count k (length piece)) (high - first))) (stretches_from k low high (first + position_count k (length piece)) pieces)
    ∙ ap (λ xs. xs ++ flat_map (λ part. windows k part) (stretches_from k low high (first + position_count k (length piece)) pieces))
    (stretch-windows k piece (low - first) (min (position_count k (length piece)) (high - first)) some (omega arith) ∙ cut-min (low - first) (position_count k (length piece)) (high - first) (windows k piece) long)
    ∙ ap (λ xs. cut (low - first) (high - first) (windows k piece) ++ xs)
    (stretches-windows k low high (first + position_count k (length piece)) pieces some
    ∙ ap (λ m. cut m (high - (first + position_count k (length piece))) (flat_map (λ p. windows k p) pieces)) (minus low first (position_count k (length piece)) (length (windows k piece)) long)
    ∙ ap (λ m. cut (low - first - length (windows k piece)) m (flat_map (λ p. windows k p) pieces)) (minus high first (position_count k (length piece)) (length (windows k piece)) long))
    ∙ sym (cut-append (low - first) (high - first) (windows k piece) (flat_map (λ p. windows k p) pieces))
  where
    minus : (a b c d : ℕ) → d ≡ c → a - (b + c) ≡ a - b - d
    minus a b c d e = omega (arith, e)

pub length-cut : {X : Type 0} (low high : ℕ) (xs : List X) → length (cut low high xs) ≡ min high (length xs) - low
unfolding cut
length-cut low high xs = length-drop low (take high xs) ∙ ap (λ n. n - low) (length-take high xs)

-- ---- the windows of all batches

batch-windows : (k size i : ℕ) (pieces : List (List ℕ)) → 1 ≤ k → flat_map (λ part. windows k part) (batch_of k size pieces i).pieces ≡ cut (i * size) ((i + 1) * size) (flat_map (λ piece. windows k piece) pieces)
batch-windows k size i pieces some =
    ap (flat_map (λ part. windows k part)) (stretches-are k (i * size) ((i + 1) * size) pieces) ∙ stretches-windows k (i * size) ((i + 1) * size) 0 pieces some ∙ ap (λ m. cut m ((i + 1) * size - 0) (flat_map (λ piece. windows k piece) pieces)) (omega arith) ∙ ap (λ m. cut (i * size) m (flat_map (λ piece. windows k piece) pieces)) (omega arith)

take-cut : {X : Type 0} (low high : ℕ) (xs : List X) → low ≤ high → take low xs ++ cut low high xs ≡ take high xs
unfolding cut
take-cut low high xs h = ap (λ ys. ys ++ drop low (take high xs)) (sym (take-take low high xs h)) ∙ take-append-drop low (take high xs)

batches-windows : (k size n : ℕ) (pieces : List (List ℕ)) → 1 ≤ k → flat_map (λ i. flat_map (λ part. windows k part) (batch_of k size pieces i).pieces) (range_with_len 0 n) ≡ take (n * size) (flat_map (λ piece. windows k piece) pieces)
batches-windows k size zero pieces some = ap (λ m. take m (flat_map (λ piece. windows k piece) pieces)) none
  where
    none : 0 ≡ 0 * size
    none = omega arith
batches-windows k size (suc n) pieces some =
    ap (λ m. flat_map (λ i. flat_map (λ part. windows k part) (batch_of k size pieces i).pieces) (range_with_len 0 m)) next
    ∙ flat_map-range_more (λ i. flat_map (λ part. windows k part) (batch_of k size pieces i).pieces) n
    ∙ ap (λ xs. xs ++ flat_map (λ part. windows k part) (batch_of k size pieces n).pieces) (batches-windows k size n pieces some)
    ∙ ap (λ xs. take (n * size) (flat_map (λ piece. windows k piece) pieces) ++ xs) (batch-windows k size n pieces some)
    ∙ take-cut (n * size) ((n + 1) * size) (flat_map (λ piece. windows k piece) pieces) (omega arith)
    ∙ ap (λ m. take (m * size) (flat_map (λ piece. windows k piece) pieces)) (sym next)
  where
    next : suc n ≡ n + 1
    next = omega arith

pub length-all_windows : (k : ℕ) (pieces : List (List ℕ)) → length (flat_map (λ piece. windows k piece) pieces) ≡ position_total k pieces
length-all_windows k [] = refl
length-all_windows k (piece ∷ pieces) =
    let this = length-windows k piece in
    let rest = length-all_windows k pieces in
    let joined = length-append (windows k piece) (flat_map (λ p. windows k p) pieces) in
    let sum = sum_by-cons (λ p. position_count k (length p)) piece pieces in
    omega (arith, this, rest, joined, sum)

enough : (total size : ℕ) → 1 ≤ size → total ≤ (total + size - 1) / size * size
enough total size some =
    let whole = div-add-mod' (total + size - 1) size in
    let rest = mod-lt (total + size - 1) {m = size} some in
    omega (arith, whole, rest, some)

-- the windows of all batches of a cutting are those of the pieces, each once and in order
pub cutting-windows : (k size : ℕ) (pieces : List (List ℕ)) → 1 ≤ k → 1 ≤ size → flat_map (λ batch. flat_map (λ part. windows k part) batch.pieces) (cutting k size pieces) ≡ flat_map (λ piece. windows k piece) pieces
unfolding cutting
cutting-windows k size pieces some size_some =
    flat_map-map (λ (batch : NumberedPieces). flat_map (λ part. windows k part) batch.pieces) (λ i. batch_of k size pieces i) (range_with_len 0 (batch_count k size pieces))
    ∙ batches-windows k size (batch_count k size pieces) pieces some
    ∙ take_all (batch_count k size pieces * size) (flat_map (λ piece. windows k piece) pieces)
    (let long = length-all_windows k pieces in let most = enough (position_total k pieces) size size_some in omega (arith, long, most))

-- ---- the words and the occurrences of all batches

words_of-windows : (rule : CountingRule) (pieces : List (List ℕ)) → words_of rule (as_reads pieces) ≡ filter_map (counted_word rule) (flat_map (λ piece. windows rule.k piece) pieces)
unfolding words_of
words_of-windows rule [] = refl
words_of-windows rule (piece ∷ pieces) =
    ap (λ xs. xs ++ words_of rule (as_reads pieces)) (words_in-windows rule piece)
    ∙ ap (λ xs. filter_map (counted_word rule) (windows rule.k piece) ++ xs) (words_of-windows rule pieces)
    ∙ sym (filter_map-append (counted_word rule) (windows rule.k piece) (flat_map (λ p. windows rule.k p) pieces))

batches-words : (rule : CountingRule) (batches : List NumberedPieces) → flat_map (λ batch. words_of rule (as_reads batch.pieces)) batches ≡ filter_map (counted_word rule) (flat_map (λ batch. flat_map (λ part. windows rule.k part) batch.pieces) batches)
batches-words rule [] = refl
batches-words rule (batch ∷ batches) =
    ap (λ xs. xs ++ flat_map (λ b. words_of rule (as_reads b.pieces)) batches) (words_of-windows rule batch.pieces)
    ∙ ap (λ xs. filter_map (counted_word rule) (flat_map (λ part. windows rule.k part) batch.pieces) ++ xs) (batches-words rule batches)
    ∙ sym (filter_map-append (counted_word rule) (flat_map (λ part. windows rule.k part) batch.pieces) (flat_map (λ b. flat_map (λ part. windows rule.k part) b.pieces) batches))

-- the words of all batches of a cutting are those of the pieces, in order
pub cutting-words : (rule : CountingRule) (size : ℕ) (pieces : List (List ℕ)) → 1 ≤ rule.k → 1 ≤ size → flat_map (λ batch. words_of rule (as_reads batch.pieces)) (cutting rule.k size pieces) ≡ words_of rule (as_reads pieces)
cutting-words rule size pieces some size_some =
    batches-words rule (cutting rule.k size pieces) ∙ ap (filter_map (counted_word rule)) (cutting-windows rule.k size pieces some size_some) ∙ sym (words_of-windows rule pieces)

-- whether a window has this word, and the word counts
holds : CountingRule → List ℕ → List ℕ → Bool
holds rule word window = option_map_or (λ found. bytes_eq found word) (counted_form rule window) false

count_by-range : (f g : ℕ → Bool) (a n : ℕ) → ((p : ℕ) → p < a + n → f p ≡ g p) → count_by f (range_with_len a n) ≡ count_by g (range_with_len a n)
count_by-range f g a zero same = refl
count_by-range f g a (suc n) same =
    sum_by-cons (λ p. cond (f p) 1 0) a (range_with_len (a + 1) n)
    ∙ ap (λ b. cond b 1 0 + count_by f (range_with_len (a + 1) n)) (same a (omega arith))
    ∙ ap (λ m. cond (g a) 1 0 + m) (count_by-range f g (a + 1) n (λ p h. same p (omega (arith, h))))
    ∙ sym (sum_by-cons (λ p. cond (g p) 1 0) a (range_with_len (a + 1) n))

occurrences_in-windows : (rule : CountingRule) (piece word : List ℕ) → occurrences_in rule (read_of piece None) word ≡ count_by (holds rule word) (windows rule.k piece)
unfolding occurrences_in windows holds
occurrences_in-windows rule piece word =
    count_by-range (λ p. counts_under rule (read_of piece None) word p) (λ p. option_map_or (λ found. bytes_eq found word) (counted_form rule (take rule.k (drop p piece))) false) 0 (position_count rule.k (length piece))
    (λ p h. ap (λ o. option_map_or (λ found. bytes_eq found word) o false) (counted_at-window rule piece p (omega (arith, h))))
    ∙ sym (fold-map (λ a window. a + cond (option_map_or (λ found. bytes_eq found word) (counted_form rule window) false) 1 0) (λ p. take rule.k (drop p piece)) 0 (range_with_len 0 (position_count rule.k (length piece))))

occurrences-windows : (rule : CountingRule) (pieces : List (List ℕ)) (word : List ℕ) → occurrences rule (as_reads pieces) word ≡ count_by (holds rule word) (flat_map (λ piece. windows rule.k piece) pieces)
unfolding occurrences
occurrences-windows rule [] word = refl
occurrences-windows rule (piece ∷ pieces) word =
    sum_by-cons (λ r. occurrences_in rule r word) (read_of piece None) (as_reads pieces)
    ∙ ap (λ n. n + occurrences rule (as_reads pieces) word) (occurrences_in-windows rule piece word)
    ∙ ap (λ n. count_by (holds rule word) (windows rule.k piece) + n) (occurrences-windows rule pieces word)
    ∙ sym (sum_by-append (λ w. cond (holds rule word w) 1 0) (windows rule.k piece) (flat_map (λ p. windows rule.k p) pieces))

batches-occurrences : (rule : CountingRule) (batches : List NumberedPieces) (word : List ℕ) → sum_by (λ batch. occurrences rule (as_reads batch.pieces) word) batches ≡ count_by (holds rule word) (flat_map (λ batch. flat_map (λ part. windows rule.k part) batch.pieces) batches)
batches-occurrences rule [] word = refl
batches-occurrences rule (batch ∷ batches) word =
    sum_by-cons (λ (b : NumberedPieces). occurrences rule (as_reads b.pieces) word) batch batches
    ∙ ap (λ n. n + sum_by (λ b. occurrences rule (as_reads b.pieces) word) batches) (occurrences-windows rule batch.pieces word)
    ∙ ap (λ n. count_by (holds rule word) (flat_map (λ part. windows rule.k part) batch.pieces) + n) (batches-occurrences rule batches word)
    ∙ sym (sum_by-append (λ w. cond (holds rule word w) 1 0) (flat_map (λ part. windows rule.k part) batch.pieces) (flat_map (λ b. flat_map (λ part. windows rule.k part) b.pieces) batches))

-- each word occurs in all batches of a cutting together as often as in the pieces
pub cutting-occurrences : (rule : CountingRule) (size : ℕ) (pieces : List (List ℕ)) (word : List ℕ) → 1 ≤ rule.k → 1 ≤ size → sum_by (λ batch. occurrences rule (as_reads batch.pieces) word) (cutting rule.k size pieces) ≡ occurrences rule (as_reads pieces) word
cutting-occurrences rule size pieces word some size_some =
    batches-occurrences rule (cutting rule.k size pieces) word ∙ ap (count_by (holds rule word)) (cutting-windows rule.k size pieces some size_some) ∙ sym (occurrences-windows rule pieces word)

-- ---- the numbers and the positions of the batches

pub length-cutting : (k size : ℕ) (pieces : List (List ℕ)) → length (cutting k size pieces) ≡ batch_count k size pieces
unfolding cutting
length-cutting k size pieces = length-map-range_with_len (λ i. batch_of k size pieces i) 0 (batch_count k size pieces)

-- the i-th batch is batch i
pub get_or-cutting : (k size i : ℕ) (pieces : List (List ℕ)) (d : NumberedPieces) → i < length (cutting k size pieces) → get_or (cutting k size pieces) i d ≡ batch_of k size pieces i
unfolding cutting
get_or-cutting k size i pieces d h =
    let long = length-cutting k size pieces in
    get_or-map-range_with_len (λ j. batch_of k size pieces j) 0 (batch_count k size pieces) i i d (omega (arith, h, long)) (omega arith)

-- a batch has at most `size` positions
pub batch-positions-le : (k size i : ℕ) (pieces : List (List ℕ)) → 1 ≤ k → position_total k (batch_of k size pieces i).pieces ≤ size
batch-positions-le k size i pieces some =
    let own = length-all_windows k (batch_of k size pieces i).pieces in
    let part = ap length (batch-windows k size i pieces some) ∙ length-cut (i * size) ((i + 1) * size) (flat_map (λ piece. windows k piece) pieces) in
    omega (arith, own, part)

-- a batch has `size` positions, and the last one those that are left
pub batch-positions : (k size i : ℕ) (pieces : List (List ℕ)) → 1 ≤ k → position_total k (batch_of k size pieces i).pieces ≡ min size (position_total k pieces - i * size)
batch-positions k size i pieces some =
    let own = length-all_windows k (batch_of k size pieces i).pieces in
    let all = length-all_windows k pieces in
    let part = ap length (batch-windows k size i pieces some) ∙ length-cut (i * size) ((i + 1) * size) (flat_map (λ piece. windows k piece) pieces) in
    let next : (i + 1) * size ≡ i * size + size = omega arith in
    omega (arith, own, all, part, next)

-- each batch of a cutting has a position
pub batch-inhabited : (k size i : ℕ) (pieces : List (List ℕ)) → 1 ≤ k → 1 ≤ size → i < length (cutting k size pieces) → 1 ≤ position_total k (batch_of k size pieces i).pieces
batch-inhabited k size i pieces some size_some within =
    let long = length-cutting k size pieces in
    let fits : (i + 1) * size ≤ position_total k pieces + size - 1 = (le-div_iff_mul-le {k = size} {x = i + 1} {y = position_total k pieces + size - 1} size_some).0 (omega (arith, within, long)) in
    let next : (i + 1) * size ≡ i * size + size = omega arith in
    let many = batch-positions k size i pieces some in
    omega (arith, fits, next, many, size_some)

batches-positions : (k : ℕ) (batches : List NumberedPieces) → sum_by (λ batch. position_total k batch.pieces) batches ≡ length (flat_map (λ batch. flat_map (λ part. windows k part) batch.pieces) batches)
batches-positions k [] = refl
batches-positions k (batch ∷ batches) =
    let own = length-all_windows k batch.pieces in
    let rest = batches-positions k batches in
    let joined = length-append (flat_map (λ part. windows k part) batch.pieces) (flat_map (λ b. flat_map (λ part. windows k part) b.pieces) batches) in
    let sum = sum_by-cons (λ (b : NumberedPieces). position_total k b.pieces) batch batches in
    omega (arith, own, rest, joined, sum)

-- the batches of a cutting have together as many positions as the pieces
pub cutting-positions : (k size : ℕ) (pieces : List (List ℕ)) → 1 ≤ k → 1 ≤ size → sum_by (λ batch. position_total k batch.pieces) (cutting k size pieces) ≡ position_total k pieces
cutting-positions k size pieces some size_some =
    batches-positions k (cutting k size pieces) ∙ ap length (cutting-windows k size pieces some size_some) ∙ length-all_windows k pieces

-- and at most as many as the pieces have bytes
pub position_total-le : (k : ℕ) (pieces : List (List ℕ)) → 1 ≤ k → position_total k pieces ≤ sum_by (λ piece. length piece) pieces
position_total-le k pieces some = sum_by-le-sum_by (λ piece. position_count k (length piece)) (λ piece. length piece) pieces (λ piece. omega (arith, some))

-- pieces have at most as many words as positions
pub length-words_of-pieces : (rule : CountingRule) (pieces : List (List ℕ)) → length (words_of rule (as_reads pieces)) ≤ position_total rule.k pieces
length-words_of-pieces rule pieces =
    let same = ap length (words_of-windows rule pieces) in
    let fewer = length-filter_map (counted_word rule) (flat_map (λ piece. windows rule.k piece) pieces) in
    let total = length-all_windows rule.k pieces in
    omega (arith, same, fewer, total)
