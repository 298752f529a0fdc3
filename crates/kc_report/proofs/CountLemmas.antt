-- How many words have a count, from the bins of a tally and row by row.
use Rattle.std.proofs.Common.{◌≡◌, ℕ, zero, suc, ◌+◌, ◌-◌, ◌^◌, ◌<◌, ◌≤◌, ⊎_elim, cond, eqb, List, [], ◌∷◌, ◌++◌, length, get_or, set, take, drop}
use Rattle.std.proofs.Common.{refl, sym, ap, subst, ◌∙◌, arith, length-set, replicate, eq-eqb, ne_eqb, append-nil, append_assoc}
use Rattle.std.specs.Prelude.{◌==◌, nat_lt, All, sum}
use Rattle.std.proofs.lemmas.Bool.{cases_eq}
use Rattle.std.proofs.lemmas.Bool.Decides.{nat_tests}
use Rattle.std.proofs.Math.ListN.{drop_of_length-le}
use Rattle.std.proofs.lemmas.List.{ext_get_or, get_or-take, length-take-le, get_or-set_same, get_or-set_other, get_or-replicate, length-replicate, length-append}
use Rattle.std.proofs.lemmas.List.FromFn.{length-map-range_with_len, get_or-map-range_with_len, map-range_with_len_more}
use Rattle.std.proofs.lemmas.List.Sums.{count_by-le-length, sum_by-append, sum_by_push, sum_by-drop_more}
use Rattle.kc_lemmas.proofs.Sums.{count_by-same, count_by-all, sum_by-plus, sum_by-same}
use Rattle.kc_tally.specs.declared.row.Row.{Row}
use Rattle.kc_tally.specs.Histogram.{last_bin, bin_of, bin_count, bins_of, counts_of}
use Rattle.kc_tally.proofs.Bins.{length-bins_of, get_or-bins_of, bin_at-bins_of, bin_count-is}
use Rattle.kc_report.specs.Histo.{words_with_count, words_above, words_by_count}

same_test : (count c : ℕ) → c < last_bin → (bin_of count == c) ≡ (count == c)
same_test count c small = grind (arith, nat_tests)

-- a bin but the last has the words with one count
pub bin_count-below : (rows : List Row) (c : ℕ) → c < last_bin → bin_count rows c ≡ words_with_count rows c
bin_count-below rows c small =
    count_by-same (λ row. bin_of row.count == c) (λ row. row.count == c) rows (λ k d below. same_test _ c small)

pub length-words_by_count : (high : ℕ) (rows : List Row) → length (words_by_count high rows) ≡ high
unfolding words_by_count
length-words_by_count high rows = length-map-range_with_len (words_with_count rows) 1 high

pub get_or-words_by_count : (high : ℕ) (rows : List Row) (i : ℕ) → i < high → get_or (words_by_count high rows) i 0 ≡ words_with_count rows (i + 1)
unfolding words_by_count
get_or-words_by_count high rows i below = get_or-map-range_with_len (words_with_count rows) 1 high i (i + 1) 0 below (omega arith)

-- one more count
pub words_by_count-more : (high : ℕ) (rows : List Row)
    → words_by_count (high + 1) rows ≡ words_by_count high rows ++ words_with_count rows (high + 1) ∷ []
unfolding words_by_count
words_by_count-more high rows = map-range_with_len_more (words_with_count rows) 1 high (high + 1) (omega arith)

from_each : (high : ℕ) (rows : List Row) (words : List ℕ) → length words ≡ high
    → ((i : ℕ) → i < high → get_or words i 0 ≡ words_with_count rows (i + 1))
    → words ≡ words_by_count high rows
from_each high rows words long each = ext_get_or 0 words (words_by_count high rows) (long ∙ sym (length-words_by_count high rows))
    (λ i below. let l : i < high = omega (arith, below, long) in each i l ∙ sym (get_or-words_by_count high rows i l))

-- as many zeros count no row
pub words_by_count-zeros : (high : ℕ) (words : List ℕ) → words ≡ replicate high 0 → words ≡ words_by_count (length words) []
words_by_count-zeros high words zeros =
    let long : length words ≡ high = ap length zeros ∙ length-replicate high 0 in
    from_each (length words) [] words refl (λ i below. ap (λ v. get_or v i 0) zeros ∙ get_or-replicate high i 0 0 (omega (arith, below, long)))

-- no more words have a count than there are rows
pub words_with_count-most : (rows : List Row) (count : ℕ) → words_with_count rows count ≤ length rows
words_with_count-most rows count = count_by-le-length (λ row. row.count == count) rows

unfoldable pub one_with : Row → ℕ → ℕ
one_with row count = cond (eqb row.count count) 1 0

pub with_count-push : (rows : List Row) (row : Row) (count : ℕ)
    → words_with_count (rows ++ row ∷ []) count ≡ words_with_count rows count + one_with row count
unfolding one_with
with_count-push rows row count =
    sum_by-append (λ (r : Row). cond (eqb r.count count) 1 0) rows (row ∷ [])
    ∙ ap (λ n. words_with_count rows count + n) (let one : 0 + cond (eqb row.count count) 1 0 ≡ cond (eqb row.count count) 1 0 = omega arith in one)

more_here : (rows : List Row) (row : Row) (count : ℕ) → row.count ≡ count
    → words_with_count (rows ++ row ∷ []) count ≡ words_with_count rows count + 1
unfolding one_with
more_here rows row count e =
    with_count-push rows row count ∙ ap (λ b. words_with_count rows count + cond b 1 0) (eq-eqb row.count count e)

same_else : (rows : List Row) (row : Row) (count : ℕ) → (row.count ≡ count → ⊥)
    → words_with_count (rows ++ row ∷ []) count ≡ words_with_count rows count
unfolding one_with
same_else rows row count ne =
    let sum = with_count-push rows row count ∙ ap (λ b. words_with_count rows count + cond b 1 0) (ne_eqb row.count count ne) in
    omega (arith, sum)

-- one more row, which has one of the counts
pub words_by_count-row : (high : ℕ) (rows : List Row) (row : Row) → 1 ≤ row.count → row.count ≤ high
    → let old = words_by_count high rows in
    set old (row.count - 1) (get_or old (row.count - 1) 0 + 1) ≡ words_by_count high (rows ++ row ∷ [])
words_by_count-row high rows row some most =
    let count = row.count in
    let old = words_by_count high rows in
    let long = length-words_by_count high rows in
    let new = set old (count - 1) (get_or old (count - 1) 0 + 1) in
    from_each high (rows ++ row ∷ []) new (length-set old (count - 1) (get_or old (count - 1) 0 + 1) ∙ long) (λ k l.
    ⊎_elim
    (λ e. let here : count ≡ k + 1 = omega (arith, e, some) in
    ap (λ j. get_or (set old j (get_or old j 0 + 1)) k 0) e ∙ get_or-set_same old k (get_or old k 0 + 1) 0 (omega (arith, l, long))
    ∙ ap (λ n. n + 1) (get_or-words_by_count high rows k l) ∙ sym (more_here rows row (k + 1) here))
    (λ ne. get_or-set_other old (count - 1) k (get_or old (count - 1) 0 + 1) 0 (λ e. ne (sym e))
    ∙ get_or-words_by_count high rows k l ∙ sym (same_else rows row (k + 1) (λ e. ne (omega (arith, e)))))
    (cases_eq (count - 1) k))

-- or a greater one
pub words_by_count-past : (high : ℕ) (rows : List Row) (row : Row) → high < row.count → words_by_count high rows ≡ words_by_count high (rows ++ row ∷ [])
words_by_count-past high rows row past =
    from_each high (rows ++ row ∷ []) (words_by_count high rows) (length-words_by_count high rows) (λ k l.
    get_or-words_by_count high rows k l ∙ sym (same_else rows row (k + 1) (λ e. omega (arith, e, l, past))))

-- of all rows some are counted, and the others are left
pub record AreCounted (high : ℕ) (rows left : List Row) (words : List ℕ) : Type 0 where
  pub seen : List Row
  pub split : rows ≡ seen ++ left
  pub counted : words ≡ words_by_count high seen

pub counted-none : (rows : List Row) (words : List ℕ) → words ≡ words_by_count (length words) [] → AreCounted (length words) rows rows words
counted-none rows words none = record { seen = []; split = refl; counted = none }

pub counted-row : {high : ℕ} {rows left later : List Row} {words : List ℕ} {row : Row} → AreCounted high rows left words
    → left ≡ row ∷ later → 1 ≤ row.count → row.count ≤ high
    → AreCounted high rows later (set words (row.count - 1) (get_or words (row.count - 1) 0 + 1))
counted-row {high} {rows} {left} {later} {words} {row} is next some most = record {
  seen = is.seen ++ row ∷ [];
  split = is.split ∙ ap (λ v. is.seen ++ v) next ∙ sym (append_assoc is.seen (row ∷ []) later);
  counted = ap (λ v. set v (row.count - 1) (get_or v (row.count - 1) 0 + 1)) is.counted ∙ words_by_count-row high is.seen row some most;
}

pub counted-past : {high : ℕ} {rows left later : List Row} {words : List ℕ} {row : Row} → AreCounted high rows left words
    → left ≡ row ∷ later → high < row.count → AreCounted high rows later words
counted-past {high} {rows} {left} {later} {words} {row} is next past = record {
  seen = is.seen ++ row ∷ [];
  split = is.split ∙ ap (λ v. is.seen ++ v) next ∙ sym (append_assoc is.seen (row ∷ []) later);
  counted = is.counted ∙ words_by_count-past high is.seen row past;
}

pub counted-all : (high : ℕ) (rows left : List Row) (words : List ℕ) → AreCounted high rows left words → left ≡ [] → words ≡ words_by_count high rows
counted-all high rows left words is none =
    is.counted ∙ ap (words_by_count high) (sym (append-nil is.seen) ∙ ap (λ v. is.seen ++ v) (sym none) ∙ sym is.split)

-- while a row is left, no place is as full as there are rows
pub counted-most : {high : ℕ} {rows left later : List Row} {words : List ℕ} {row : Row} → AreCounted high rows left words
    → left ≡ row ∷ later → (j : ℕ) → j < high → get_or words j 0 < length rows
counted-most {high} {rows} {left} {later} {words} {row} is next j below =
    let at : get_or words j 0 ≡ words_with_count is.seen (j + 1) =
    ap (λ v. get_or v j 0) is.counted ∙ get_or-words_by_count high is.seen j below in
    let long = ap length is.split ∙ length-append is.seen left in
    let more = ap length next in
    omega (arith, at, words_with_count-most is.seen (j + 1), long, more)

-- if each count is at least 1, all words occur more often than 0 times
pub words_above-all : (rows : List Row) → All (λ row. 1 ≤ row.count) rows → words_above rows 0 ≡ length rows
words_above-all rows present =
    count_by-all (λ row. nat_lt 0 row.count) rows (λ k d below. let some = present k d below in grind (arith, nat_tests, some))

one_of_both : (i count : ℕ) → cond (nat_lt i count) 1 0 ≡ cond (eqb count (i + 1)) 1 0 + cond (nat_lt (i + 1) count) 1 0
one_of_both i count = grind (arith, nat_tests)

-- a word that occurs more than i times does so i + 1 times, or more often
pub words_above-split : (rows : List Row) (i : ℕ) → words_above rows i ≡ words_with_count rows (i + 1) + words_above rows (i + 1)
words_above-split rows i =
    let here = λ (row : Row). cond (eqb row.count (i + 1)) 1 0 in
    let above = λ (row : Row). cond (nat_lt (i + 1) row.count) 1 0 in
    sum_by-same (λ row. cond (nat_lt i row.count) 1 0) (λ row. here row + above row) rows (λ k d below. one_of_both i _) ∙ sum_by-plus here above rows

sum-none : (rows : List Row) → sum (words_by_count 0 rows) ≡ 0
unfolding words_by_count
sum-none rows = refl

-- the words with counts up to one, and those with greater ones
pub words-and-above : (high : ℕ) (rows : List Row) → All (λ row. 1 ≤ row.count) rows
    → sum (words_by_count high rows) + words_above rows high ≡ length rows
words-and-above zero rows present = omega (arith, sum-none rows, words_above-all rows present)
words-and-above (suc n) rows present =
    let before = words-and-above n rows present in
    let more : sum (words_by_count (n + 1) rows) ≡ sum (words_by_count n rows) + words_with_count rows (n + 1) =
    ap sum (words_by_count-more n rows) ∙ sum_by_push (λ (x : ℕ). x) (words_by_count n rows) (words_with_count rows (n + 1)) in
    let split = words_above-split rows n in
    let next : n + 1 ≡ suc n = omega arith in
    subst (λ m. sum (words_by_count m rows) + words_above rows m ≡ length rows) next (omega (arith, before, more, split))

-- ---- from the bins of a tally

bin-at : (rows : List Row) (bins : List ℕ) (i : ℕ) → i < last_bin → bins ≡ bins_of (counts_of rows) → get_or bins i 0 ≡ bin_count rows (i + 1)
bin-at rows bins i within are =
    ap (λ v. get_or v i 0) are ∙ get_or-bins_of (counts_of rows) i within ∙ sym (bin_at-bins_of (counts_of rows) (i + 1) (omega arith) (omega (arith, within)))
    ∙ bin_count-is rows (i + 1) (omega arith) (omega (arith, within))

last_test : (count i : ℕ) → i + 0 + 1 ≡ last_bin → (bin_of count == (i + 1)) ≡ nat_lt i count
last_test count i last = grind (arith, nat_tests, last)

-- the first bins have one count each
pub bins-front : (high : ℕ) (rows : List Row) (bins : List ℕ) → high < last_bin → bins ≡ bins_of (counts_of rows) → take high bins ≡ words_by_count high rows
bins-front high rows bins small are =
    from_each high rows (take high bins) (length-take-le high bins (omega (arith, long, small)))
    (λ i below.
    get_or-take high bins i 0 below ∙ bin-at rows bins i (omega (arith, below, small)) are ∙ bin_count-below rows (i + 1) (omega (arith, below, small)))
  where
    long : length bins ≡ last_bin
    long = ap length are ∙ length-bins_of (counts_of rows)

next-none : (bins : List ℕ) (i : ℕ) → length bins ≤ i + 1 → drop (i + 1) bins ≡ []
next-none bins i all = drop_of_length-le bins all

-- and after them are the words with greater counts
bins-rest-from : (rows : List Row) (bins : List ℕ) (n i : ℕ) → i + n + 1 ≡ last_bin → bins ≡ bins_of (counts_of rows) → sum (drop i bins) ≡ words_above rows i
bins-rest-from rows bins zero i last are =
    let long : length bins ≡ last_bin = ap length are ∙ length-bins_of (counts_of rows) in
    let step = sum_by-drop_more (λ (x : ℕ). x) bins i 0 (omega (arith, long, last)) in
    let none = ap sum (next-none bins i (omega (arith, long, last))) in
    let at = bin-at rows bins i (omega (arith, last)) are in
    let same : bin_count rows (i + 1) ≡ words_above rows i =
    count_by-same (λ row. bin_of row.count == (i + 1)) (λ row. nat_lt i row.count) rows (λ k d below. last_test _ i last) in
    omega (arith, step, none, at, same)
bins-rest-from rows bins (suc n) i last are =
    let long : length bins ≡ last_bin = ap length are ∙ length-bins_of (counts_of rows) in
    let step = sum_by-drop_more (λ (x : ℕ). x) bins i 0 (omega (arith, long, last)) in
    let rest = bins-rest-from rows bins n (i + 1) (omega (arith, last)) are in
    let at = bin-at rows bins i (omega (arith, last)) are in
    let here = bin_count-below rows (i + 1) (omega (arith, last)) in
    let split = words_above-split rows i in
    omega (arith, step, rest, at, here, split)

pub bins-rest : (high : ℕ) (rows : List Row) (bins : List ℕ) → high < last_bin → bins ≡ bins_of (counts_of rows) → sum (drop high bins) ≡ words_above rows high
bins-rest high rows bins small are = bins-rest-from rows bins (last_bin - 1 - high) high (omega (arith, small)) are

pub rest-fits : (high : ℕ) (rows : List Row) (bins : List ℕ) → high < last_bin → bins ≡ bins_of (counts_of rows) → length rows < 2 ^ 64 → sum (drop high bins) < 2 ^ 64
rest-fits high rows bins small are few =
    let rest = bins-rest high rows bins small are in
    let most = count_by-le-length (λ row. nat_lt high row.count) rows in
    omega (arith, rest, most, few)
