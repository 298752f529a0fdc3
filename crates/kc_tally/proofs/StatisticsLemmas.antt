-- The statistics of rows, from their bins and from counts that weigh what those of the rows do.
use Rattle.std.proofs.Common.{◌≡◌, ℕ, zero, suc, ◌+◌, ◌≤◌, cond, eqb, false, true, List, length, get_or, take, All, sum_by, count_by, refl, ap, sym, ◌∙◌, arith}
use Rattle.std.specs.Prelude.{◌==◌, nat_lt, sum}
use Rattle.std.proofs.lemmas.Bool.Decides.{nat_tests}
use Rattle.std.proofs.lemmas.List.{length-map, take_all}
use Rattle.std.proofs.lemmas.List.Elements.{All-map}
use Rattle.std.proofs.lemmas.List.Sums.{sum_by_more}
use Rattle.kc_lemmas.proofs.Greatest.{max-same}
use Rattle.kc_lemmas.proofs.Sums.{sum_by-same, sum_by-plus, sum_by-map, count_by-same, count_by-all, count_by-none}
use Rattle.kc_tally.specs.declared.row.Row.{Row}
use Rattle.kc_tally.specs.declared.tally_statistics.Statistics.{Statistics}
use Rattle.kc_tally.specs.Histogram.{last_bin, bin_of, bin_at, bin_size, bins_of, counts_of}
use Rattle.kc_tally.specs.Statistics.{greatest_of, statistics_of}
use Rattle.kc_tally.proofs.Bins.{length-bins_of, get_or-bins_of, bin_count-is}

-- ---- the sizes of all bins

one_or_later : (n bin : ℕ) → cond (eqb bin (n + 1)) 1 0 + cond (nat_lt (n + 1) bin) 1 0 ≡ cond (nat_lt n bin) 1 0
one_or_later n bin = grind (arith, nat_tests)

-- how many of the counts fall in a bin after the first n
behind : ℕ → List ℕ → ℕ
behind n counts = count_by (λ count. nat_lt n (bin_of count)) counts

behind-split : (n : ℕ) (counts : List ℕ) → bin_size counts (n + 1) + behind (n + 1) counts ≡ behind n counts
unfolding bin_size behind
behind-split n counts =
    let here = λ (count : ℕ). cond (eqb (bin_of count) (n + 1)) 1 0 in
    let later = λ (count : ℕ). cond (nat_lt (n + 1) (bin_of count)) 1 0 in
    sym (sum_by-plus here later counts)
    ∙ sum_by-same (λ count. here count + later count) (λ count. cond (nat_lt n (bin_of count)) 1 0) counts
    (λ k d within. one_or_later n (bin_of (get_or counts k d)))

-- the first n sizes, and what falls in the other bins, are all that falls in a bin
front-sum : (bins counts : List ℕ) (n : ℕ) → bins ≡ bins_of counts → n ≤ last_bin → sum (take n bins) + behind n counts ≡ behind 0 counts
front-sum bins counts zero are within = omega arith
front-sum bins counts (suc n) are within =
    let long : length bins ≡ last_bin = ap length are ∙ length-bins_of counts in
    let step = sum_by_more (λ (size : ℕ). size) bins n 0 (omega (arith, long, within)) in
    let size = ap (λ v. get_or v n 0) are ∙ get_or-bins_of counts n (omega (arith, within)) in
    let split = behind-split n counts in
    let before = front-sum bins counts n are (omega (arith, within)) in
    let next : n + 1 ≡ suc n = omega arith in
    ap (λ m. sum (take m bins) + behind m counts) (sym next) ∙ omega (arith, step, size, split, before)

past_last : (n count : ℕ) → n ≡ last_bin → nat_lt n (bin_of count) ≡ false
past_last n count last = grind (arith, nat_tests, last)

in_some : (count : ℕ) → 1 ≤ count → nat_lt 0 (bin_of count) ≡ true
in_some count some = grind (arith, nat_tests, some)

-- a word for each count, if none is 0
pub bins-sum : (bins counts : List ℕ) → bins ≡ bins_of counts → All (λ count. 1 ≤ count) counts → sum bins ≡ length counts
unfolding behind
bins-sum bins counts are present =
    let long : length bins ≡ last_bin = ap length are ∙ length-bins_of counts in
    let front = front-sum bins counts (length bins) are (omega (arith, long)) in
    let whole = ap sum (take_all (length bins) bins (omega arith)) in
    let none = count_by-none (λ count. nat_lt (length bins) (bin_of count)) counts (λ k d within. past_last (length bins) (get_or counts k d) long) in
    let all = count_by-all (λ count. nat_lt 0 (bin_of count)) counts (λ k d within. in_some (get_or counts k d) (present k d within)) in
    omega (arith, front, whole, none, all)

-- ---- the four numbers

once_test : (count : ℕ) → (bin_of count == 1) ≡ (count == 1)
once_test count = grind (arith, nat_tests)

unique-bins : (rows : List Row) (bins : List ℕ) → bins ≡ bins_of (counts_of rows) → bin_at bins 1 ≡ count_by (λ row. row.count == 1) rows
unique-bins rows bins are =
    ap (λ v. bin_at v 1) are ∙ bin_count-is rows 1 (omega arith) (omega arith)
    ∙ count_by-same (λ row. bin_of row.count == 1) (λ row. row.count == 1) rows (λ k d within. once_test (get_or rows k d).count)

pub distinct-bins : (rows : List Row) (bins : List ℕ) → bins ≡ bins_of (counts_of rows) → All (λ row. 1 ≤ row.count) rows → sum bins ≡ length rows
distinct-bins rows bins are present =
    bins-sum bins (counts_of rows) are (All-map (λ count. 1 ≤ count) (λ (row : Row). row.count) rows present)
    ∙ length-map rows (λ (row : Row). row.count)

-- the statistics of these rows, by their bins, and by the sum and the greatest of counts that weigh the same
pub record HasStatistics (rows : List Row) (bins counts : List ℕ) (statistics : Statistics) : Type 0 where
  pub bins_are : bins ≡ bins_of (counts_of rows)
  pub present : All (λ row. 1 ≤ row.count) rows
  pub weigh : (h : ℕ → ℕ) → h 0 ≡ 0 → sum_by h counts ≡ sum_by h (counts_of rows)
  pub unique : statistics.unique ≡ bin_at bins 1
  pub distinct : statistics.distinct ≡ sum bins
  pub total : statistics.total ≡ sum counts
  pub greatest : statistics.greatest ≡ greatest_of counts

pub statistics-are : (rows : List Row) (bins counts : List ℕ) (statistics : Statistics) → HasStatistics rows bins counts statistics → statistics ≡ statistics_of rows
statistics-are rows bins counts statistics of =
    let unique : statistics.unique ≡ count_by (λ row. row.count == 1) rows = of.unique ∙ unique-bins rows bins of.bins_are in
    let distinct : statistics.distinct ≡ length rows = of.distinct ∙ distinct-bins rows bins of.bins_are of.present in
    let total : statistics.total ≡ sum_by (λ row. row.count) rows =
    of.total ∙ of.weigh (λ count. count) refl ∙ sum_by-map (λ (count : ℕ). count) (λ (row : Row). row.count) rows in
    let greatest : statistics.greatest ≡ greatest_of (counts_of rows) = of.greatest ∙ max-same counts (counts_of rows) of.weigh in
    (λ i. record { unique = unique i; distinct = distinct i; total = total i; greatest = greatest i })
