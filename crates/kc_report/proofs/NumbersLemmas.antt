-- What is counted of the rows of a table, one more row at a time.
use Rattle.std.proofs.Common.{◌≡◌, ℕ, ◌+◌, ◌-◌, ◌^◌, ◌<◌, ◌≤◌, Bool, true, false, cond, eqb, List, [], ◌∷◌, ◌++◌, length, get_or, set, replicate}
use Rattle.std.proofs.Common.{refl, sym, ap, ◌∙◌, arith}
use Rattle.std.specs.Prelude.{sum, max}
use Rattle.std.proofs.lemmas.List.{get_or_default, length_push, length-replicate, map_push}
use Rattle.std.proofs.lemmas.List.Elements.{All-push}
use Rattle.std.proofs.lemmas.List.Sums.{fold-append}
use Rattle.kc_tally.specs.declared.row.Row.{Row}
use Rattle.kc_tally.specs.declared.tally_statistics.Statistics.{Statistics}
use Rattle.kc_tally.specs.Histogram.{counts_of}
use Rattle.kc_tally.specs.Statistics.{greatest_of, statistics_of}
use Rattle.kc_tally.specs.Tally.{total_of}
use Rattle.kc_report.specs.Histo.{words_with_count, words_above, words_by_count, histo_text, lines_from}
use Rattle.kc_report.specs.Numbers.{NumbersSeen, IsCountOf}
use Rattle.kc_report.proofs.CountLemmas.{get_or-words_by_count, length-words_by_count, words-and-above}
use Rattle.kc_report.proofs.CountLemmas.{one_with, with_count-push, words_by_count-past, words_by_count-row}
use Rattle.kc_report.proofs.CountLemmas.{words_by_count-zeros, words_with_count-most}
use Rattle.kc_report.proofs.HistoLemmas.{text-counted}
use Rattle.kc_report.proofs.TableFronts.{length-le_total}
use Rattle.kc_report.proofs.WritingLemmas.{total_of-push}

greatest_push : (rows : List Row) (row : Row)
    → greatest_of (counts_of (rows ++ row ∷ [])) ≡ max (greatest_of (counts_of rows)) row.count
greatest_push rows row =
    ap greatest_of (map_push (λ (r : Row). r.count) rows row)
    ∙ fold-append max 0 (counts_of rows) (row.count ∷ [])

-- the statistics of one more row
pub statistics_push : (rows : List Row) (row : Row) → statistics_of (rows ++ row ∷ []) ≡ record {
  unique = words_with_count rows 1 + one_with row 1;
  distinct = length rows + 1;
  total = total_of rows + row.count;
  greatest = max (greatest_of (counts_of rows)) row.count;
}
statistics_push rows row = λ i. record {
  unique = with_count-push rows row 1 i;
  distinct = length_push rows row i;
  total = total_of-push rows row i;
  greatest = greatest_push rows row i;
}

-- there are no more rows than what they count
pub rows_few : {high : ℕ} {rows : List Row} {numbers : NumbersSeen} → IsCountOf high rows numbers → length rows ≤ 2 ^ 62
rows_few {rows = rows} is = omega (arith, length-le_total rows is.present, is.small)

-- the statistics with one more count
abbrev pub with_count : Statistics → ℕ → Statistics
with_count statistics count = record {
  unique = statistics.unique + cond (eqb count 1) 1 0;
  distinct = statistics.distinct + 1;
  total = statistics.total + count;
  greatest = max statistics.greatest count;
}

pub with_one : (statistics : Statistics) (count : ℕ) {one greatest : ℕ} → one ≡ cond (eqb count 1) 1 0 → greatest ≡ max statistics.greatest count
    → ◌≡◌ {A = Statistics} (record {
      unique = statistics.unique + one;
      distinct = statistics.distinct + 1;
      total = statistics.total + count;
      greatest = greatest;
    }) (with_count statistics count)
with_one statistics count one greatest = λ i. record {
  unique = statistics.unique + one i;
  distinct = statistics.distinct + 1;
  total = statistics.total + count;
  greatest = greatest i;
}

pub statistics_more : (rows : List Row) (row : Row) (statistics : Statistics) → statistics ≡ statistics_of rows
    → with_count statistics row.count ≡ statistics_of (rows ++ row ∷ [])
unfolding one_with
statistics_more rows row statistics is = ap (λ s. with_count s row.count) is ∙ sym (statistics_push rows row)

-- how a count fits
pub record Fits (high : ℕ) (rows : List Row) (numbers : NumbersSeen) (row : Row) : Type 0 where
  pub is : IsCountOf high rows numbers
  pub some : 1 ≤ row.count
  pub small : numbers.statistics.total + row.count ≤ 2 ^ 62

more_small : {high : ℕ} {rows : List Row} {numbers : NumbersSeen} {row : Row} → Fits high rows numbers row
    → total_of (rows ++ row ∷ []) ≤ 2 ^ 62
more_small {rows = rows} {row = row} f =
    let total = ap (λ s. s.total) f.is.statistics in omega (arith, total, f.small, total_of-push rows row)

-- one more row, which has a place
pub counts_inside : {high : ℕ} {rows : List Row} {numbers : NumbersSeen} {row : Row} (words : List ℕ) (statistics : Statistics)
    → Fits high rows numbers row → row.count ≤ length numbers.words
    → words ≡ set numbers.words (row.count - 1) (get_or numbers.words (row.count - 1) 0 + 1)
    → statistics ≡ with_count numbers.statistics row.count
    → IsCountOf high (rows ++ row ∷ []) (record { words = words; room = numbers.room; statistics = statistics })
counts_inside {high} {rows} {numbers} {row} words statistics f inside words_are statistics_are =
    let long = ap length f.is.words ∙ length-words_by_count high rows in
    record {
      words = words_are ∙ ap (λ v. set v (row.count - 1) (get_or v (row.count - 1) 0 + 1)) f.is.words
          ∙ words_by_count-row high rows row f.some (omega (arith, inside, long));
      statistics = statistics_are ∙ statistics_more rows row numbers.statistics f.is.statistics;
      room = f.is.room;
      most = f.is.most;
      present = All-push (λ (r : Row). 1 ≤ r.count) rows row f.is.present f.some;
      small = more_small f;
    }

-- or has none
pub counts_past : {high : ℕ} {rows : List Row} {numbers : NumbersSeen} {row : Row} (statistics : Statistics)
    → Fits high rows numbers row → length numbers.words < row.count
    → statistics ≡ with_count numbers.statistics row.count
    → IsCountOf high (rows ++ row ∷ []) (record { words = numbers.words; room = numbers.room; statistics = statistics })
counts_past {high} {rows} {numbers} {row} statistics f past statistics_are =
    let long = ap length f.is.words ∙ length-words_by_count high rows in
    record {
      words = f.is.words ∙ words_by_count-past high rows row (omega (arith, past, long));
      statistics = statistics_are ∙ statistics_more rows row numbers.statistics f.is.statistics;
      room = f.is.room;
      most = f.is.most;
      present = All-push (λ (r : Row). 1 ≤ r.count) rows row f.is.present f.some;
      small = more_small f;
    }

-- the numbers are small
pub unique_few : {high : ℕ} {rows : List Row} {numbers : NumbersSeen} → IsCountOf high rows numbers
    → numbers.statistics.unique ≤ 2 ^ 62
unique_few {high} {rows} {numbers} is =
    omega (arith, ap (λ s. s.unique) is.statistics, words_with_count-most rows 1, rows_few is)

pub distinct_few : {high : ℕ} {rows : List Row} {numbers : NumbersSeen} → IsCountOf high rows numbers
    → numbers.statistics.distinct ≤ 2 ^ 62
distinct_few {high} {rows} {numbers} is = omega (arith, ap (λ s. s.distinct) is.statistics, rows_few is)

pub one_most : (b : Bool) → cond b 1 0 ≤ 1
one_most true = omega arith
one_most false = omega arith

-- no place is fuller than there are rows
pub place_fits : {high : ℕ} {rows : List Row} {numbers : NumbersSeen} (i d : ℕ) → IsCountOf high rows numbers
    → i < length numbers.words → get_or numbers.words i d ≤ 2 ^ 62
place_fits {high} {rows} {numbers} i d is within =
    let long = ap length is.words ∙ length-words_by_count high rows in
    let at = ap (λ v. get_or v i 0) is.words ∙ get_or-words_by_count high rows i (omega (arith, within, long)) in
    omega (arith, at, get_or_default numbers.words i d 0 within, words_with_count-most rows (i + 1), rows_few is)

-- the words with greater counts are the others
pub above_is : {high : ℕ} {rows : List Row} {numbers : NumbersSeen} → IsCountOf high rows numbers
    → sum numbers.words + words_above rows high ≡ numbers.statistics.distinct
above_is {high} {rows} is =
    let distinct = ap (λ s. s.distinct) is.statistics in
    omega (arith, ap sum is.words, words-and-above high rows is.present, distinct)

-- no rows
pub counts_none : (high : ℕ) (words : List ℕ) (room : ℕ) → words ≡ replicate high 0 → room ≤ high → high ≤ 10_000_000
    → IsCountOf high [] (record { words = words; room = room; statistics = statistics_of [] })
counts_none high words room zeros fits most = record {
  words = words_by_count-zeros high words zeros ∙ ap (λ n. words_by_count n []) (ap length zeros ∙ length-replicate high 0);
  statistics = refl;
  room = fits;
  most = most;
  present = λ k d h. absurd (omega (arith, h));
  small = omega arith;
}

-- the text of a histogram of these numbers
pub text_of_numbers : {high : ℕ} {rows : List Row} {numbers : NumbersSeen} → IsCountOf high rows numbers → (words : List ℕ) (above : ℕ)
    → words ≡ numbers.words → sum numbers.words + above ≡ numbers.statistics.distinct
    → lines_from 1 words above ≡ histo_text high rows
text_of_numbers {high} {rows} {numbers} is words above same rest =
    text-counted high rows words above (same ∙ is.words) (omega (arith, above_is is, rest))
