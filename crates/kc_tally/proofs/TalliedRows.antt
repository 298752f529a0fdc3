-- Rows made number by number.
use Rattle.std.proofs.Common.{◌≡◌, ℕ, suc, ◌+◌, ◌*◌, ◌^◌, ◌%◌, ◌<◌, ◌≤◌, ⊎_elim, cond, eqb, List, [], ◌∷◌, ◌++◌, map, length, get_or, All, refl, ap, sym, ◌∙◌, subst, arith, eq-eqb, ne_eqb}
use Rattle.std.proofs.lemmas.Bool.{cases_lt, cond-true, cond-false}
use Rattle.std.proofs.lemmas.Nat.{one_shl}
use Rattle.std.proofs.lemmas.List.{map_push, length_push, length-map, get_or_append_left, get_or_push, get_or-map}
use Rattle.std.proofs.lemmas.List.Elements.{All-push, All-nil}
use Rattle.std.specs.List.Sorted.{IsStrictlyIncreasing}
use Rattle.kc_fastx.specs.Reads.{Read}
use Rattle.kc_kmer.specs.Word.{text}
use Rattle.kc_kmer.specs.Rule.{CountingRule}
use Rattle.kc_kmer.specs.Occurrences.{occurrences}
use Rattle.kc_tally.specs.declared.row.Row.{Row}
use Rattle.kc_tally.specs.Tally.{row_of, count_of, AreOrderedRows, IsTally}
use Rattle.kc_kmer.proofs.Letters.{pow-four}

-- the rows of the numbers below n
pub record IsTalliedTo (rule : CountingRule) (reads : List Read) (n : ℕ) (rows : List Row) : Type 0 where
  pub ordered : AreOrderedRows n rows
  pub counts : (m : ℕ) → m < n → count_of rows m ≡ occurrences rule reads (text rule.k m)

pub IsTalliedTo-none : (rule : CountingRule) (reads : List Read) → IsTalliedTo rule reads 0 []
IsTalliedTo-none rule reads = record {
  ordered = record { rising = λ k h. absurd (omega (arith, h)); words = All-nil _; present = All-nil _ };
  counts = λ m h. absurd (omega (arith, h));
}

rising_push : (xs : List ℕ) (y : ℕ) → IsStrictlyIncreasing xs → ((k : ℕ) → k < length xs → get_or xs k 0 < y) → IsStrictlyIncreasing (xs ++ y ∷ [])
rising_push xs y rising less k h =
    let long = length_push xs y in
    let inside : k < length xs = omega (arith, long, h) in
    let first = get_or_append_left xs (y ∷ []) 0 k inside in
    ⊎_elim
    (λ l. let next = get_or_append_left xs (y ∷ []) 0 (k + 1) l in let step = rising k l in omega (arith, first, next, step))
    (λ l. let next = get_or_push xs y 0 (k + 1) (omega (arith, inside, l)) in let step = less k inside in omega (arith, first, next, step))
    (cases_lt (k + 1) (length xs))

pub count_of_push : (rows : List Row) (row : Row) (m : ℕ) → (row.word ≡ m → ⊥) → count_of (rows ++ row ∷ []) m ≡ count_of rows m
count_of_push [] row m ne = cond-false (eqb row.word m) row.count 0 (ne_eqb row.word m ne)
count_of_push (first ∷ rows) row m ne = ap (cond (eqb first.word m) first.count) (count_of_push rows row m ne)

pub count_of_pushed : (rows : List Row) (row : Row) → All (λ (r : Row). r.word < row.word) rows → count_of (rows ++ row ∷ []) row.word ≡ row.count
count_of_pushed [] row below = cond-true (eqb row.word row.word) row.count 0 (eq-eqb row.word row.word refl)
count_of_pushed (first ∷ rows) row below =
    let less = below 0 first (omega arith) in
    cond-false (eqb first.word row.word) first.count (count_of (rows ++ row ∷ []) row.word) (ne_eqb first.word row.word (λ e. omega (arith, e, less)))
    ∙ count_of_pushed rows row (λ k d h. below (suc k) d (omega (arith, h)))

pub count_of-absent : (rows : List Row) (n : ℕ) → All (λ row. row.word < n) rows → count_of rows n ≡ 0
count_of-absent [] n below = refl
count_of-absent (first ∷ rows) n below =
    let less = below 0 first (omega arith) in
    cond-false (eqb first.word n) first.count (count_of rows n) (ne_eqb first.word n (λ e. omega (arith, e, less))) ∙ count_of-absent rows n (λ k d h. below (suc k) d (omega (arith, h)))

wider : (n : ℕ) (rows : List Row) → All (λ row. row.word < n) rows → All (λ row. row.word < n + 1) rows
wider n rows below k d h = let less = below k d h in omega (arith, less)

-- a row after others that have lesser words
pub ordered_push : (n count : ℕ) (rows : List Row) → 0 < count → AreOrderedRows n rows → AreOrderedRows (n + 1) (rows ++ row_of n count ∷ [])
ordered_push n count rows some ordered = record {
  rising = subst IsStrictlyIncreasing (sym (map_push (λ (row : Row). row.word) rows (row_of n count)))
      (rising_push (map (λ (row : Row). row.word) rows) n ordered.rising (λ k h.
      let long = length-map rows (λ (row : Row). row.word) in
      let less = ordered.words k (row_of 0 0) (omega (arith, h, long)) in
      let same = get_or-map (λ (row : Row). row.word) rows k (row_of 0 0) 0 (omega (arith, h, long)) in
      omega (arith, less, same)));
  words = All-push (λ (row : Row). row.word < n + 1) rows (row_of n count) (wider n rows ordered.words) (omega arith);
  present = All-push (λ (row : Row). 1 ≤ row.count) rows (row_of n count) ordered.present some;
}

-- a word that occurs has a row
pub IsTalliedTo-yes : (rule : CountingRule) (reads : List Read) (n count : ℕ) (rows : List Row) → 0 < count → count ≡ occurrences rule reads (text rule.k n) → IsTalliedTo rule reads n rows → IsTalliedTo rule reads (n + 1) (rows ++ row_of n count ∷ [])
IsTalliedTo-yes rule reads n count rows some e tallied = record {
  ordered = ordered_push n count rows some tallied.ordered;
  counts = λ m h.
      ⊎_elim
      (λ l. count_of_push rows (row_of n count) m (λ f. omega (arith, f, l)) ∙ tallied.counts m l)
      (λ l. let same : n ≡ m = omega (arith, h, l) in ap (count_of (rows ++ row_of n count ∷ [])) (sym same) ∙ count_of_pushed rows (row_of n count) tallied.ordered.words ∙ e ∙ ap (λ i. occurrences rule reads (text rule.k i)) same)
      (cases_lt m n);
}

-- a word that does not occur has none
pub IsTalliedTo-no : (rule : CountingRule) (reads : List Read) (n count : ℕ) (rows : List Row) → count ≤ 0 → count ≡ occurrences rule reads (text rule.k n) → IsTalliedTo rule reads n rows → IsTalliedTo rule reads (n + 1) rows
IsTalliedTo-no rule reads n count rows none e tallied = record {
  ordered = record { rising = tallied.ordered.rising; words = wider n rows tallied.ordered.words; present = tallied.ordered.present };
  counts = λ m h.
      ⊎_elim
      (λ l. tallied.counts m l)
      (λ l. let same : n ≡ m = omega (arith, h, l) in let zero_ : count ≡ 0 = omega (arith, none) in ap (count_of rows) (sym same) ∙ count_of-absent rows n tallied.ordered.words ∙ sym zero_ ∙ e ∙ ap (λ i. occurrences rule reads (text rule.k i)) same)
      (cases_lt m n);
}

pub IsTalliedTo-all : (rule : CountingRule) (reads : List Read) (n : ℕ) (rows : List Row) → n ≡ 4 ^ rule.k → IsTalliedTo rule reads n rows → IsTally rule reads rows
IsTalliedTo-all rule reads n rows e tallied =
    let whole = subst (λ m. IsTalliedTo rule reads m rows) e tallied in
    record { ordered = whole.ordered; counts = whole.counts }

-- the number of words, as the code has it
pub words-below : (k g : ℕ) → g ≡ k → k ≤ 31 → 1 * 2 ^ (2 * g) % 2 ^ 64 ≡ 4 ^ k
words-below k g same most = one_shl (2 * g) 64 (omega (arith, same, most)) ∙ ap (λ n. 2 ^ (2 * n)) same ∙ sym (pow-four k)
