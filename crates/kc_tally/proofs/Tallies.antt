-- Rows that count the list of all words are the tally, which is unique, and how large it is.
use Rattle.std.proofs.Common.{◌≡◌, ℕ, zero, suc, ◌+◌, ◌^◌, ◌<◌, ◌≤◌, ⊎_elim, cond, eqb, List, [], ◌∷◌, ◌++◌, map, length, get_or, sum_by, All, filter, refl, ap, sym, ◌∙◌, subst, arith, eq-eqb, ne_eqb, zero-add, not, le_refl}
use Rattle.std.proofs.lemmas.Bool.{cases_lt, cases_eq, cases_order, cond-true, cond-false}
use Rattle.std.proofs.lemmas.List.{length-map}
use Rattle.std.proofs.lemmas.List.Sums.{sum_by-cons, length-filter}
use Rattle.std.proofs.lemmas.List.Filters.{length-filter_both}
use Rattle.std.specs.List.Sorted.{IsStrictlyIncreasing}
use Rattle.kc_fastx.specs.Reads.{Read}
use Rattle.kc_kmer.specs.Word.{text, form}
use Rattle.kc_kmer.specs.Rule.{CountingRule}
use Rattle.kc_kmer.specs.Occurrences.{words_of}
use Rattle.kc_kmer.proofs.WordCounts.{times, times-words_of, All-words_of, All-forms, occurrences-append, length-words_of}
use Rattle.kc_tally.specs.declared.row.Row.{Row}
use Rattle.kc_tally.specs.Tally.{count_of, total_of, AreOrderedRows, AreRows, IsTally, TallySeen, IsTallyOf}
use Rattle.kc_tally.specs.Sum.{IsSum}
use Rattle.kc_tally.specs.Laws.{JoinedTally, SummedTally, OneSum}

-- rows that count the list of all words are the tally
pub IsTally-from_words : (rule : CountingRule) (reads : List Read) (rows : List Row) → IsStrictlyIncreasing (map (λ row. row.word) rows) → All (λ row. row.word < 4 ^ rule.k) rows → All (λ row. 1 ≤ row.count) rows
    → ((n : ℕ) → n < 4 ^ rule.k → count_of rows n ≡ times n (words_of rule reads)) → IsTally rule reads rows
IsTally-from_words rule reads rows rising words present counts = record {
  ordered = record { rising = rising; words = words; present = present };
  counts = λ n h. counts n h ∙ times-words_of rule reads n h;
}

-- ---- one tally

-- the rows rise, from a number that is at least `low` on
unfoldable pub RisesFrom : ℕ → List Row → Type 0
RisesFrom low [] = Unit {0}
RisesFrom low (row ∷ rows) = (low ≤ row.word) × RisesFrom (suc row.word) rows

pub rises-from : (low : ℕ) (rows : List Row) → IsStrictlyIncreasing (map (λ row. row.word) rows) → (0 < length rows → low ≤ get_or (map (λ row. row.word) rows) 0 0) → RisesFrom low rows
unfolding RisesFrom
rises-from low [] rising first = tt
rises-from low (row ∷ rows) rising first =
    (first (omega arith), rises-from (suc row.word) rows (λ k h. let e : suc k + 1 ≡ suc (k + 1) = omega arith in subst (λ m. get_or (map (λ (r : Row). r.word) rows) k 0 < get_or (row.word ∷ map (λ (r : Row). r.word) rows) m 0) e (rising (suc k) (let l : suc k + 1 < suc (length (map (λ (r : Row). r.word) rows)) = omega (arith, h) in l))) (λ h. rising 0 (let long = length-map rows (λ (r : Row). r.word) in omega (arith, h, long))))

-- the rows of a tally: ascending from a number on, with numbers below a bound and counts above 0
pub record RiseWithin (low bound : ℕ) (rows : List Row) : Type 0 where
  pub rises : RisesFrom low rows
  pub below : All (λ row. row.word < bound) rows
  pub present : All (λ row. 1 ≤ row.count) rows

pub RiseWithin-rest : (low bound : ℕ) (row : Row) (rows : List Row) → RiseWithin low bound (row ∷ rows) → RiseWithin (suc row.word) bound rows
unfolding RisesFrom
RiseWithin-rest low bound row rows is = record {
  rises = is.rises.1;
  below = λ k d h. is.below (suc k) d (omega (arith, h));
  present = λ k d h. is.present (suc k) d (omega (arith, h));
}

pub count_of-low : (low : ℕ) (rows : List Row) (n : ℕ) → RisesFrom low rows → n < low → count_of rows n ≡ 0
unfolding RisesFrom
count_of-low low [] n rises h = refl
count_of-low low (row ∷ rows) n rises h =
    let apart : row.word ≡ n → ⊥ = λ e. let least = rises.0 in omega (arith, e, h, least) in
    cond-false (eqb row.word n) row.count (count_of rows n) (ne_eqb row.word n apart) ∙ count_of-low (suc row.word) rows n rises.1 (let least = rises.0 in omega (arith, h, least))

pub count_of-here : (row : Row) (rows : List Row) (n : ℕ) → row.word ≡ n → count_of (row ∷ rows) n ≡ row.count
count_of-here row rows n e = cond-true (eqb row.word n) row.count (count_of rows n) (eq-eqb row.word n e)

pub count_of-past : (row : Row) (rows : List Row) (n : ℕ) → (row.word ≡ n → ⊥) → count_of (row ∷ rows) n ≡ count_of rows n
count_of-past row rows n ne = cond-false (eqb row.word n) row.count (count_of rows n) (ne_eqb row.word n ne)

-- two lists of rows, of which the first begins with the lesser number
record BeginsBefore (bound : ℕ) : Type 0 where
  low : ℕ
  row : Row
  other : Row
  rows : List Row
  others : List Row
  present : 1 ≤ row.count
  below : row.word < bound
  before : row.word < other.word
  rises : RisesFrom low (other ∷ others)

-- they do not have the same counts: the first row is missing in the second list
not-the-same : (bound : ℕ) (s : BeginsBefore bound) → ((n : ℕ) → n < bound → count_of (s.row ∷ s.rows) n ≡ count_of (s.other ∷ s.others) n) → ⊥
unfolding RisesFrom
not-the-same bound s same =
    let here = count_of-here s.row s.rows s.row.word refl in
    let there = count_of-low s.other.word (s.other ∷ s.others) s.row.word (le_refl s.other.word, s.rises.1) s.before in
    let equal = same s.row.word s.below in
    omega (arith, here, there, equal, s.present)

one_tally-rows : (bound low : ℕ) (rows others : List Row) → RiseWithin low bound rows → RiseWithin low bound others → ((n : ℕ) → n < bound → count_of rows n ≡ count_of others n) → rows ≡ others
one_tally-rows bound low [] [] is also same = refl
one_tally-rows bound low [] (other ∷ others) is also same =
    let here = count_of-here other others other.word refl in
    let equal = same other.word (also.below 0 other (omega arith)) in
    let present = also.present 0 other (omega arith) in
    absurd (omega (arith, here, equal, present))
one_tally-rows bound low (row ∷ rows) [] is also same =
    let here = count_of-here row rows row.word refl in
    let equal = same row.word (is.below 0 row (omega arith)) in
    let present = is.present 0 row (omega arith) in
    absurd (omega (arith, here, equal, present))
one_tally-rows bound low (row ∷ rows) (other ∷ others) is also same =
    ⊎_elim
    (λ e. both e (λ less. one_tally-rows bound (suc row.word) rows others (RiseWithin-rest low bound row rows is) (subst (λ m. RiseWithin (suc m) bound others) (sym e) (RiseWithin-rest low bound other others also)) less))
    (λ o. ⊎_elim
    (λ h. absurd (not-the-same bound (record {
      low = low;
      row = row;
      other = other;
      rows = rows;
      others = others;
      present = is.present 0 row (omega arith);
      below = is.below 0 row (omega arith);
      before = h;
      rises = also.rises;
    }) same))
    (λ h. absurd (not-the-same bound (record {
      low = low;
      row = other;
      other = row;
      rows = others;
      others = rows;
      present = also.present 0 other (omega arith);
      below = also.below 0 other (omega arith);
      before = h;
      rises = is.rises;
    }) (λ n l. sym (same n l)))) o)
    (cases_order row.word other.word)
  where
    both : row.word ≡ other.word → (((n : ℕ) → n < bound → count_of rows n ≡ count_of others n) → rows ≡ others) → row ∷ rows ≡ other ∷ others
    both e rest =
        let count : row.count ≡ other.count = sym (count_of-here row rows row.word refl) ∙ same row.word (is.below 0 row (omega arith)) ∙ count_of-here other others row.word (sym e) in
        let tail : rows ≡ others = rest (λ n h.
        ⊎_elim
        (λ low_. count_of-low (suc row.word) rows n (RiseWithin-rest low bound row rows is).rises low_
        ∙ sym (count_of-low (suc other.word) others n (RiseWithin-rest low bound other others also).rises (omega (arith, e, low_))))
        (λ high. sym (count_of-past row rows n (λ f. omega (arith, f, high))) ∙ same n h ∙ count_of-past other others n (λ f. omega (arith, e, f, high)))
        (cases_lt n (suc row.word))) in
        (λ i. record { word = e i; count = count i } ∷ tail i)

pub ordered-RiseWithin : (bound : ℕ) (rows : List Row) → AreOrderedRows bound rows → RiseWithin 0 bound rows
ordered-RiseWithin bound rows ordered = record {
  rises = rises-from 0 rows ordered.rising (λ _. omega arith);
  below = ordered.words;
  present = ordered.present;
}

tally-RiseWithin : (rule : CountingRule) (reads : List Read) (rows : List Row) → IsTally rule reads rows → RiseWithin 0 (4 ^ rule.k) rows
tally-RiseWithin rule reads rows is = ordered-RiseWithin (4 ^ rule.k) rows is.ordered

-- the tally of given reads is one finite map
pub one_tally : (rule : CountingRule) (reads : List Read) (rows others : List Row) → IsTally rule reads rows → IsTally rule reads others → rows ≡ others
one_tally rule reads rows others is also =
    one_tally-rows (4 ^ rule.k) 0 rows others (tally-RiseWithin rule reads rows is) (tally-RiseWithin rule reads others also) (λ n h. is.counts n h ∙ sym (also.counts n h))

-- ---- the tally of joined reads

pub joined_tally : JoinedTally
joined_tally rule reads more rows others sums is also both = record {
  ordered = both.ordered;
  counts = λ n h.
      let joined = occurrences-append rule reads more (text rule.k n) in
      let first = is.counts n h in
      let second = also.counts n h in
      let sum = both.counts n h in
      omega (arith, joined, first, second, sum);
}

summed_rows : (rule : CountingRule) (reads more : List Read) (rows others sums : List Row) → IsTally rule reads rows
    → IsTally rule more others → IsSum rule.k rows others sums → IsTally rule (reads ++ more) sums
summed_rows rule reads more rows others sums is also sum = record {
  ordered = sum.ordered;
  counts = λ n h.
      let joined = occurrences-append rule reads more (text rule.k n) in
      let first = is.counts n h in
      let second = also.counts n h in
      let whole = sum.counts n h in
      omega (arith, joined, first, second, whole);
}

pub summed_tally : SummedTally
summed_tally rule reads more tally other sum is also both = record {
  k = both.k ∙ is.k;
  both = both.both ∙ is.both;
  rows = summed_rows rule reads more tally.rows other.rows sum.rows is.rows also.rows
      (subst (λ k. IsSum k tally.rows other.rows sum.rows) is.k both.rows);
}

pub one_sum : OneSum
one_sum k rows others sums more is also =
    one_tally-rows (4 ^ k) 0 sums more (ordered-RiseWithin (4 ^ k) sums is.ordered)
    (ordered-RiseWithin (4 ^ k) more also.ordered) (λ n h. is.counts n h ∙ sym (also.counts n h))

-- ---- how large a tally is

-- without the number of the first row, the list has the counts of the other rows
times-removed : (m n : ℕ) (xs : List ℕ) → (m ≡ n → ⊥) → times n (filter (λ x. not (eqb x m)) xs) ≡ times n xs
times-removed m n [] ne = refl
times-removed m n (x ∷ xs) ne =
    ⊎_elim
    (λ e. ap (times n) (cond-false (not (eqb x m)) (x ∷ filter (λ y. not (eqb y m)) xs) _ (ap not (eq-eqb x m e))) ∙ times-removed m n xs ne
    ∙ sym (sum_by-cons (λ y. cond (eqb y n) 1 0) x xs ∙ ap (λ b. cond b 1 0 + times n xs) (ne_eqb x n (λ f. ne (sym e ∙ f))) ∙ zero-add _))
    (λ d. ap (times n) (cond-true (not (eqb x m)) (x ∷ filter (λ y. not (eqb y m)) xs) _ (ap not (ne_eqb x m d)))
    ∙ sum_by-cons (λ y. cond (eqb y n) 1 0) x (filter (λ y. not (eqb y m)) xs) ∙ ap (λ r. cond (eqb x n) 1 0 + r) (times-removed m n xs ne)
    ∙ sym (sum_by-cons (λ y. cond (eqb y n) 1 0) x xs))
    (cases_eq x m)

times-gone : (m : ℕ) (xs : List ℕ) → times m (filter (λ x. not (eqb x m)) xs) ≡ 0
times-gone m [] = refl
times-gone m (x ∷ xs) =
    ⊎_elim
    (λ e. ap (times m) (cond-false (not (eqb x m)) (x ∷ filter (λ y. not (eqb y m)) xs) _ (ap not (eq-eqb x m e))) ∙ times-gone m xs)
    (λ d. ap (times m) (cond-true (not (eqb x m)) (x ∷ filter (λ y. not (eqb y m)) xs) _ (ap not (ne_eqb x m d)))
    ∙ sum_by-cons (λ y. cond (eqb y m) 1 0) x (filter (λ y. not (eqb y m)) xs) ∙ ap (λ b. cond b 1 0 + times m (filter (λ y. not (eqb y m)) xs)) (ne_eqb x m d) ∙ zero-add _ ∙ times-gone m xs)
    (cases_eq x m)

sum-of-rows : (low : ℕ) (rows : List Row) (xs : List ℕ) → RisesFrom low rows → ((n : ℕ) → count_of rows n ≡ times n xs) → total_of rows ≡ length xs
unfolding RisesFrom
sum-of-rows low [] [] rises same = refl
sum-of-rows low [] (x ∷ xs) rises same =
    let none = same x in
    let one = sum_by-cons (λ m. cond (eqb m x) 1 0) x xs ∙ ap (λ b. cond b 1 0 + times x xs) (eq-eqb x x refl) in
    absurd (omega (arith, none, one))
sum-of-rows low (row ∷ rows) xs rises same =
    let rest = sum-of-rows (suc row.word) rows (filter (λ x. not (eqb x row.word)) xs) rises.1 (λ n.
    ⊎_elim
    (λ e. count_of-low (suc row.word) rows n rises.1 (omega (arith, e)) ∙ sym (ap (λ m. times m (filter (λ x. not (eqb x row.word)) xs)) (sym e) ∙ times-gone row.word xs))
    (λ ne. sym (count_of-past row rows n ne) ∙ same n ∙ sym (times-removed row.word n xs ne))
    (cases_eq row.word n)) in
    let here : row.count ≡ times row.word xs = sym (count_of-here row rows row.word refl) ∙ same row.word in
    let split = length-filter_both (λ x. eqb x row.word) (λ x. not (eqb x row.word)) (λ x. refl) xs in
    let kept = length-filter (λ x. eqb x row.word) xs in
    let whole = sum_by-cons (λ (r : Row). r.count) row rows in
    omega (arith, rest, here, split, kept, whole)

times-beyond : (bound : ℕ) (xs : List ℕ) (n : ℕ) → All (λ m. m < bound) xs → bound ≤ n → times n xs ≡ 0
times-beyond bound [] n below h = refl
times-beyond bound (x ∷ xs) n below h =
    let small = below 0 x (omega arith) in
    sum_by-cons (λ m. cond (eqb m n) 1 0) x xs ∙ ap (λ b. cond b 1 0 + times n xs) (ne_eqb x n (λ e. omega (arith, e, small, h))) ∙ zero-add _
    ∙ times-beyond bound xs n (λ i d l. below (suc i) d (omega (arith, l))) h

count_of-beyond : (bound : ℕ) (rows : List Row) (n : ℕ) → All (λ row. row.word < bound) rows → bound ≤ n → count_of rows n ≡ 0
count_of-beyond bound [] n below h = refl
count_of-beyond bound (row ∷ rows) n below h =
    let small = below 0 row (omega arith) in
    count_of-past row rows n (λ e. omega (arith, e, small, h)) ∙ count_of-beyond bound rows n (λ k d l. below (suc k) d (omega (arith, l))) h

-- the counts of a tally add up to the number of all words
pub tally_total : (rule : CountingRule) (reads : List Read) (rows : List Row) → IsTally rule reads rows → total_of rows ≡ length (words_of rule reads)
tally_total rule reads rows is =
    sum-of-rows 0 rows (words_of rule reads) (tally-RiseWithin rule reads rows is).rises (λ n.
    ⊎_elim (λ h. is.counts n h ∙ sym (times-words_of rule reads n h)) (λ h. count_of-beyond (4 ^ rule.k) rows n is.ordered.words h ∙ sym (times-beyond (4 ^ rule.k) (words_of rule reads) n (All-words_of rule reads) h)) (cases_lt n (4 ^ rule.k)))

pub bounded_tally : (rule : CountingRule) (reads : List Read) (rows : List Row) → 1 ≤ rule.k → IsTally rule reads rows → total_of rows ≤ sum_by (λ read. length read.bases) reads
bounded_tally rule reads rows some is =
    let total = tally_total rule reads rows is in
    let most = length-words_of rule reads some in
    omega (arith, total, most)

-- ---- the tally as a value

pub one_value : (rule : CountingRule) (reads : List Read) (tally other : TallySeen) → IsTallyOf rule reads tally → IsTallyOf rule reads other → tally ≡ other
one_value rule reads tally other is also =
    let k : tally.k ≡ other.k = is.k ∙ sym also.k in
    let both : tally.both ≡ other.both = is.both ∙ sym also.both in
    let rows : tally.rows ≡ other.rows = one_tally rule reads tally.rows other.rows is.rows also.rows in
    λ i. record { k = k i; both = both i; rows = rows i }

-- a number that is counted is in the list
holds-counted : (P : ℕ → Type 0) (xs : List ℕ) (n : ℕ) → All P xs → 1 ≤ times n xs → P n
holds-counted P [] n all some = absurd (omega (arith, some))
holds-counted P (x ∷ xs) n all some =
    let split = sum_by-cons (λ m. cond (eqb m n) 1 0) x xs in
    ⊎_elim
    (λ e. subst P e (all 0 x (omega arith)))
    (λ ne. let here : ℕ = cond (eqb x n) 1 0 in let none : here ≡ 0 = ap (λ b. cond b 1 0) (ne_eqb x n ne) in holds-counted P xs n (λ i d h. all (suc i) d (omega (arith, h))) (omega (arith, some, split, none)))
    (cases_eq x n)

-- each row has the rows' count of its word
rises-above : (low : ℕ) (rows : List Row) → RisesFrom low rows → All (λ row. low ≤ row.word) rows
unfolding RisesFrom
rises-above low [] rises i d h = absurd (omega (arith, h))
rises-above low (row ∷ rows) rises zero d h = rises.0
rises-above low (row ∷ rows) rises (suc i) d h =
    let least = rises.0 in let above = rises-above (suc row.word) rows rises.1 i d (omega (arith, h)) in omega (arith, least, above)

count_of-itself : (low bound : ℕ) (rows : List Row) → RiseWithin low bound rows → All (λ row. count_of rows row.word ≡ row.count) rows
unfolding RisesFrom
count_of-itself low bound [] is i d h = absurd (omega (arith, h))
count_of-itself low bound (row ∷ rows) is zero d h = count_of-here row rows row.word refl
count_of-itself low bound (row ∷ rows) is (suc i) d h =
    let other : Row = get_or rows i d in
    let above = rises-above (suc row.word) rows is.rises.1 i d (omega (arith, h)) in
    count_of-past row rows other.word (λ e. omega (arith, e, above)) ∙ count_of-itself (suc row.word) bound rows (RiseWithin-rest low bound row rows is) i d (omega (arith, h))

pub tally-AreRows : (rule : CountingRule) (reads : List Read) (rows : List Row) → 1 ≤ rule.k → sum_by (λ read. length read.bases) reads ≤ 2 ^ 62 → IsTally rule reads rows → AreRows rule.k rule.both rows
tally-AreRows rule reads rows some few is = record {
  ordered = is.ordered;
  forms = λ i d h.
      let row : Row = get_or rows i d in
      let small = is.ordered.words i d h in
      let present = is.ordered.present i d h in
      let itself = count_of-itself 0 (4 ^ rule.k) rows (tally-RiseWithin rule reads rows is) i d h in
      let counted = is.counts row.word small in
      let times_ = times-words_of rule reads row.word small in
      holds-counted (λ n. form rule.both (text rule.k n) ≡ text rule.k n) (words_of rule reads) row.word (All-forms rule reads) (omega (arith, present, itself, counted, times_));
  small = let total = bounded_tally rule reads rows some is in omega (arith, total, few);
}
