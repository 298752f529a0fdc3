-- The spectrum of copy numbers: with one word more, and line by line.
use Rattle.std.proofs.Common.{◌≡◌, ℕ, zero, suc, ◌+◌, ◌-◌, ◌*◌, ◌^◌, ◌<◌, ◌≤◌, Bool, true, false, ◌&&◌, cond, eqb, ⊎_elim}
use Rattle.std.proofs.Common.{List, [], ◌∷◌, ◌++◌, length, get_or, set, take, drop}
use Rattle.std.proofs.Common.{refl, ap, sym, ◌∙◌, subst, arith, append-nil, append_assoc}
use Rattle.std.specs.Prelude.{flat_map}
use Rattle.std.specs.List.{range_with_len}
use Rattle.std.proofs.lemmas.Bool.{and_from, and_parts, cases_eq, eq-eqb, eqb-true, false_from_ne_true}
use Rattle.std.proofs.lemmas.List.{get_or-drop, get_or-set_other, get_or-set_same, get_or-take, length-drop, length-take-le}
use Rattle.std.proofs.lemmas.List.Sums.{count_by-le-length, sum_by_push}
use Rattle.std.proofs.lemmas.Nat.{mul-add-lt, mul-le, same_from_place}
use Rattle.kc_io.specs.Sinks.{Written, Drains, HasBegun}
use Rattle.kc_io.proofs.SinksLemmas.{Pending, SinkCall, began_front, drained}
use Rattle.kc_combine.specs.Compared.{capped, capped_in_reads, copies_line, copies_of, spectrum_text, words_with}
use Rattle.kc_combine.specs.CopySpectra.{HasCells, place_of, row_text, rows_text}

-- ---- the cells

-- the place of the cell of a word
pub place_within : (high copies count : ℕ) → copies < 6 → count < high + 2 → place_of high copies count < 6 * (high + 2)
place_within high copies count few below =
    let place = mul-add-lt copies (high + 2) count 6 few below in omega (arith, place)

pub copies_few : (counts : List ℕ) → copies_of counts < 6
copies_few counts = omega arith

pub count_below : (high : ℕ) (counts : List ℕ) → capped_in_reads high counts < high + 2
count_below high counts = omega arith

-- whether a word has these copies and this count
has_both : ℕ → ℕ → ℕ → List ℕ → Bool
has_both high copies count counts = eqb (copies_of counts) copies && eqb (capped_in_reads high counts) count

words_push : (high : ℕ) (words : List (List ℕ)) (counts : List ℕ) (copies count : ℕ)
    → words_with high (words ++ counts ∷ []) copies count
    ≡ words_with high words copies count + cond (has_both high copies count counts) 1 0
unfolding has_both
words_push high words counts copies count =
    sum_by_push (λ c. cond (eqb (copies_of c) copies && eqb (capped_in_reads high c) count) 1 0) words counts

-- one more word is counted in its cell alone
pub cells_of_more : (high : ℕ) (cells : List ℕ) (words : List (List ℕ)) (counts : List ℕ) → length cells ≡ 6 * (high + 2)
    → HasCells high cells words → let place = place_of high (copies_of counts) (capped_in_reads high counts) in
    HasCells high (set cells place (capped (get_or cells place 0 + 1))) (words ++ counts ∷ [])
unfolding has_both
cells_of_more high cells words counts long are copies count few below =
    ⊎_elim
    (λ (same : here ≡ place).
    let pair = same_from_place (copies_of counts) (capped_in_reads high counts) copies count (high + 2) (count_below high counts) below same in
    let test = and_from _ _ (eq-eqb (copies_of counts) copies pair.0) (eq-eqb (capped_in_reads high counts) count pair.1) in
    let sum = words_push high words counts copies count ∙ ap (λ b. words_with high words copies count + cond b 1 0) test in
    let old = ap (λ i. get_or cells i 0) same ∙ are copies count few below in
    ap (λ i. get_or (set cells here (capped (get_or cells here 0 + 1))) i 0) (sym same)
    ∙ get_or-set_same cells here (capped (get_or cells here 0 + 1)) 0 (omega (arith, long, within))
    ∙ omega (arith, old, sum))
    (λ (ne : here ≡ place → ⊥).
    let test : has_both high copies count counts ≡ false = false_from_ne_true _ (λ met. ne (both_same met)) in
    let sum = words_push high words counts copies count ∙ ap (λ b. words_with high words copies count + cond b 1 0) test in
    get_or-set_other cells here place (capped (get_or cells here 0 + 1)) 0 (λ e. ne (sym e))
    ∙ are copies count few below ∙ ap capped (omega (arith, sum)))
    (cases_eq here place)
  where
    here : ℕ
    here = place_of high (copies_of counts) (capped_in_reads high counts)

    place : ℕ
    place = place_of high copies count

    within : here < 6 * (high + 2)
    within = place_within high (copies_of counts) (capped_in_reads high counts) (copies_few counts) (count_below high counts)

    both_same : has_both high copies count counts ≡ true → here ≡ place
    both_same met =
        let parts = and_parts (eqb (copies_of counts) copies) (eqb (capped_in_reads high counts) count) met in
        ap (λ c. place_of high c (capped_in_reads high counts)) (eqb-true (copies_of counts) copies parts.0)
        ∙ ap (place_of high copies) (eqb-true (capped_in_reads high counts) count parts.1)

-- ---- the lines

-- the line of a count in the reads, and the lines of a number of copies
abbrev pub line_at : ℕ → List ℕ → ℕ → List ℕ
line_at copies words count = copies_line copies count (get_or words count 0)

abbrev pub row_at : ℕ → List ℕ → ℕ → List ℕ
row_at width cells copies = row_text copies (take width (drop (copies * width) cells))

-- from a part of the cells
pub row_of_part : (width : ℕ) (cells : List ℕ) (copies : ℕ)
    → row_text copies (take (copies * width + width - copies * width) (drop (copies * width) cells)) ≡ row_at width cells copies
row_of_part width cells copies =
    let many : copies * width + width - copies * width ≡ width = omega arith in
    ap (λ n. row_text copies (take n (drop (copies * width) cells))) many

-- all pieces of a text are left at its start
pub pieces_first : (f : ℕ → List ℕ) (n : ℕ) → flat_map f (range_with_len 0 n) ≡ flat_map f (range_with_len 0 (n - 0))
pieces_first f n = let all : n ≡ n - 0 = omega arith in ap (λ m. flat_map f (range_with_len 0 m)) all

-- the next piece of a text, and the others
pub pieces_next : (f : ℕ → List ℕ) (i n : ℕ) → i < n
    → flat_map f (range_with_len i (n - i)) ≡ f i ++ flat_map f (range_with_len (i + 1) (n - (i + 1)))
pieces_next f i n below =
    let more : n - i ≡ suc (n - (i + 1)) = omega (arith, below) in ap (λ m. flat_map f (range_with_len i m)) more

pub pieces_last : (f : ℕ → List ℕ) (i n : ℕ) → n ≤ i → flat_map f (range_with_len i (n - i)) ≡ []
pieces_last f i n all = let none : n - i ≡ 0 = omega (arith, all) in ap (λ m. flat_map f (range_with_len i m)) none

pieces_same : (f g : ℕ → List ℕ) (from n : ℕ) → ((i : ℕ) → from ≤ i → i < from + n → f i ≡ g i)
    → flat_map f (range_with_len from n) ≡ flat_map g (range_with_len from n)
pieces_same f g from zero same = refl
pieces_same f g from (suc n) same =
    ap (λ piece. piece ++ flat_map f (range_with_len (from + 1) n)) (same from (omega arith) (omega arith))
    ∙ ap (λ rest. g from ++ rest) (pieces_same f g (from + 1) n (λ i low high. same i (omega (arith, low)) (omega (arith, high))))

-- the next piece was appended to the block
pub next_piece : {s a b : Written} {text after : List ℕ} (f : ℕ → List ℕ) (block : List ℕ) (i n : ℕ) → i < n
    → Pending s a text (block ++ flat_map f (range_with_len i (n - i))) → Drains a b (block ++ f i) after
    → Pending s b text (after ++ flat_map f (range_with_len (i + 1) (n - (i + 1))))
next_piece {s} {a} {b} {text} {after} f block i n within p moved =
    let rest = flat_map f (range_with_len (i + 1) (n - (i + 1))) in
    let cut : block ++ flat_map f (range_with_len i (n - i)) ≡ (block ++ f i) ++ rest =
    ap (λ v. block ++ v) (pieces_next f i n within) ∙ sym (append_assoc block (f i) rest) in
    let call : SinkCall = record {
      start = s;
      now = a;
      next = b;
      text = text;
      rest = block ++ flat_map f (range_with_len i (n - i));
      pending = p;
    } in
    drained call (block ++ f i) after rest cut moved

-- the sink failed in the next piece
pub began_piece : {s a b : Written} {text : List ℕ} (f : ℕ → List ℕ) (block : List ℕ) (i n : ℕ) → i < n
    → Pending s a text (block ++ flat_map f (range_with_len i (n - i))) → HasBegun a b (block ++ f i) → HasBegun s b text
began_piece {s} {a} {b} {text} f block i n within p begun =
    let rest = flat_map f (range_with_len (i + 1) (n - (i + 1))) in
    let cut : block ++ flat_map f (range_with_len i (n - i)) ≡ (block ++ f i) ++ rest =
    ap (λ v. block ++ v) (pieces_next f i n within) ∙ sym (append_assoc block (f i) rest) in
    began_front s a b text (block ++ f i) rest (subst (Pending s a text) cut p) begun

-- no piece is left
pub drained_pieces : {s b : Written} {text : List ℕ} (f : ℕ → List ℕ) (block : List ℕ) (i n : ℕ) → n ≤ i
    → Pending s b text (block ++ flat_map f (range_with_len i (n - i))) → Drains s b text block
drained_pieces f block i n all p = record {
  front = p.front;
  taken = p.taken;
  split = p.whole ∙ ap (λ v. p.front ++ v) (ap (λ v. block ++ v) (pieces_last f i n all) ∙ append-nil block);
}

-- ---- from the cells

-- the cells of one number of copies are there
pub row_within : (width copies : ℕ) → copies < 6 → copies * width + width ≤ 6 * width
row_within width copies few = let most = mul-le copies width 5 width (omega (arith, few)) (omega arith) in omega (arith, most)

-- the lines of the cells are those of the words
pub text_of_cells : (high : ℕ) (cells : List ℕ) (words : List (List ℕ)) → length cells ≡ 6 * (high + 2) → HasCells high cells words
    → length words < 2 ^ 64 → rows_text (high + 2) cells ≡ spectrum_text high words
unfolding rows_text row_text spectrum_text
text_of_cells high cells words long are few =
    pieces_same (λ copies. row_text copies (row copies))
    (λ copies. flat_map (λ count. copies_line copies count (words_with high words copies count)) (range_with_len 0 (high + 2))) 0 6
    (λ copies low below. ap (λ n. flat_map (λ count. copies_line copies count (get_or (row copies) count 0)) (range_with_len 0 n)) (row_long copies below)
    ∙ pieces_same (λ count. copies_line copies count (get_or (row copies) count 0))
    (λ count. copies_line copies count (words_with high words copies count)) 0 (high + 2)
    (λ count least within. ap (copies_line copies count) (cell copies count below (omega (arith, within)))))
  where
    row : ℕ → List ℕ
    row copies = take (high + 2) (drop (copies * (high + 2)) cells)

    row_long : (copies : ℕ) → copies < 6 → length (row copies) ≡ high + 2
    row_long copies below =
        length-take-le (high + 2) (drop (copies * (high + 2)) cells)
        (omega (arith, length-drop (copies * (high + 2)) cells, long, row_within (high + 2) copies below))

    cell : (copies count : ℕ) → copies < 6 → count < high + 2 → get_or (row copies) count 0 ≡ words_with high words copies count
    cell copies count below within =
        let most = count_by-le-length (λ c. eqb (copies_of c) copies && eqb (capped_in_reads high c) count) words in
        let cut : capped (words_with high words copies count) ≡ words_with high words copies count = omega (arith, most, few) in
        get_or-take (high + 2) (drop (copies * (high + 2)) cells) count 0 within
        ∙ get_or-drop (copies * (high + 2)) cells count 0 ∙ are copies count below within ∙ cut
