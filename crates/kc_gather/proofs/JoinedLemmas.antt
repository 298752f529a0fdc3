-- What whole stripes have together is what the tally of the batches has.
use Rattle.std.proofs.Common.{◌≡◌, ℕ, zero, suc, Bool, ◌+◌, ◌-◌, ◌^◌, ◌<◌, ◌≤◌, true, false, cond, eqb, List, ◌++◌, length, get_or, filter, sum_by, max, All, refl, ap, sym, subst, ◌∙◌, arith, lit<}
use Rattle.std.specs.Prelude.{nat_lt, sum}
use Rattle.std.specs.List.{range_with_len}
use Rattle.std.proofs.lemmas.Bool.{cond-true, cond-false}
use Rattle.std.proofs.lemmas.Bool.Decides.{nat_tests}
use Rattle.std.proofs.lemmas.Nat.{pow_pos}
use Rattle.std.proofs.Math.Nat.{mod-lt, pow-le-pow_right}
use Rattle.std.proofs.lemmas.List.FromFn.{length-range_with_len}
use Rattle.std.proofs.lemmas.List.Sums.{sum_by-append}
use Rattle.kc_lemmas.proofs.Greatest.{max-append}
use Rattle.kc_lemmas.proofs.Lists.{map-same, flat_map-range_more}
use Rattle.kc_lemmas.proofs.Sums.{sum_by-plus, sum_by-same, sum_by-filter, sum_by-map, sum_by-zeros, sum_by-ones}
use Rattle.kc_word.specs.Cutting.{NumberedPieces}
use Rattle.kc_tally.specs.declared.row.Row.{Row}
use Rattle.kc_tally.specs.declared.tally_statistics.Statistics.{Statistics}
use Rattle.kc_tally.specs.Histogram.{bins_of, joined_bins, counts_of, bin_at}
use Rattle.kc_tally.specs.Statistics.{greatest_of}
use Rattle.kc_tally.specs.Tally.{TallySeen, IsTallyOf, total_of}
use Rattle.kc_tally.proofs.Bins.{bins_of-same, bins_of-append, bins_of-fit}
use Rattle.kc_tally.proofs.StatisticsLemmas.{distinct-bins, statistics-are}
use Rattle.kc_tally.proofs.Tallies.{tally_total}
use Rattle.kc_tally.proofs.WholeTallies.{has_tally}
use Rattle.kc_booking.specs.Setup.{StripeSetup, word_count, stripe_count, stripe_of}
use Rattle.kc_booking.specs.Stripe.{StripeState, NumbersDiffer, reads_in, word_occurrences, stripe_occurrences, position_sum}
use Rattle.kc_gather.specs.Gathering.{IsWhole}
use Rattle.kc_gather.specs.declared.stripe_part.StripeNumbers.{StripeNumbers}
use Rattle.kc_gather.specs.JoinedStripes.{first_counts, AreNumbersOf}
use Rattle.kc_gather.specs.declared.gathered_numbers.Numbers.{Numbers}
use Rattle.kc_gather.specs.TallyNumbers.{AreNumbersOfTally}
use Rattle.kc_gather.proofs.Rows.{whole-occurrences}
use Rattle.kc_gather.proofs.Tallies.{few_words}

-- ---- one more part

-- the counts of the first parts, and of the next one
one-more : (counts : ℕ → List ℕ) (n : ℕ) → first_counts counts (n + 1) ≡ first_counts counts n ++ counts n
one-more counts n = flat_map-range_more counts n

-- the first parts have no more than all
front-most : (h : ℕ → ℕ) (counts : ℕ → List ℕ) (n more : ℕ) → sum_by h (first_counts counts n) ≤ sum_by h (first_counts counts (n + more))
front-most h counts n zero = omega (arith, ap (λ m. sum_by h (first_counts counts m)) (none_more n))
  where
    none_more : (m : ℕ) → m + 0 ≡ m
    none_more m = omega arith
front-most h counts n (suc more) =
    let before = front-most h counts n more in
    let next = ap (λ m. sum_by h (first_counts counts m)) (one_later n more) in
    let step = ap (sum_by h) (one-more counts (n + more)) ∙ sum_by-append h (first_counts counts (n + more)) (counts (n + more)) in
    omega (arith, before, next, step)
  where
    one_later : (m k : ℕ) → m + suc k ≡ m + k + 1
    one_later m k = omega arith

front-within : (h : ℕ → ℕ) (counts : ℕ → List ℕ) (n all : ℕ) → n ≤ all → sum_by h (first_counts counts n) ≤ sum_by h (first_counts counts all)
front-within h counts n all within =
    subst (λ m. sum_by h (first_counts counts n) ≤ sum_by h (first_counts counts m)) (rest n all within) (front-most h counts n (all - n))
  where
    rest : (m k : ℕ) → m ≤ k → m + (k - m) ≡ k
    rest m k less = omega (arith, less)

pub bins-more : (counts : ℕ → List ℕ) (i : ℕ) {old own : List ℕ} → old ≡ bins_of (first_counts counts i) → own ≡ bins_of (counts i)
    → joined_bins old own ≡ bins_of (first_counts counts (i + 1))
bins-more counts i {old} {own} before is =
    ap (λ bins. joined_bins bins own) before
    ∙ ap (joined_bins (bins_of (first_counts counts i))) is
    ∙ bins_of-append (first_counts counts i) (counts i)
    ∙ ap bins_of (sym (one-more counts i))

pub bins-fit : (counts : ℕ → List ℕ) (n all : ℕ) → n ≤ all → length (first_counts counts all) < 2 ^ 64 → All (λ size. size < 2 ^ 64) (bins_of (first_counts counts n))
bins-fit counts n all within few =
    bins_of-fit (first_counts counts n)
    (let front = front-within (λ _. 1) counts n all within in
    let some = sum_by-ones (first_counts counts n) in
    let most = sum_by-ones (first_counts counts all) in
    omega (arith, few, front, some, most))

pub total-more : (counts : ℕ → List ℕ) (i : ℕ) {old own : ℕ} → old ≡ sum (first_counts counts i) → own ≡ sum (counts i) → old + own ≡ sum (first_counts counts (i + 1))
total-more counts i before is =
    let more = ap sum (one-more counts i) ∙ sum_by-append (λ (count : ℕ). count) (first_counts counts i) (counts i) in
    omega (arith, before, is, more)

pub total-fits : (counts : ℕ → List ℕ) (n all : ℕ) → n ≤ all → sum (first_counts counts n) ≤ sum (first_counts counts all)
total-fits counts n all within = front-within (λ (count : ℕ). count) counts n all within

pub numbers-more : (counts : ℕ → List ℕ) (i : ℕ) (old own new : StripeNumbers) → AreNumbersOf (first_counts counts i) old → AreNumbersOf (counts i) own
    → new.histogram ≡ joined_bins old.histogram own.histogram → new.total ≡ old.total + own.total → new.greatest ≡ max old.greatest own.greatest
    → AreNumbersOf (first_counts counts (i + 1)) new
numbers-more counts i old own new before is bins total greatest = record {
  bins_are = bins ∙ bins-more counts i before.bins_are is.bins_are;
  total_is = total ∙ total-more counts i before.total_is is.total_is;
  greatest_is = greatest ∙ ap (λ n. max n own.greatest) before.greatest_is ∙ ap (max (greatest_of (first_counts counts i))) is.greatest_is
      ∙ sym (ap greatest_of (one-more counts i) ∙ max-append (first_counts counts i) (counts i));
}

-- ---- stripe by stripe

-- what the stripes of a count of the batches have
abbrev pub of_stripes : StripeSetup → List NumberedPieces → ℕ → List ℕ
of_stripes setup batches n = stripe_occurrences setup n batches

-- a stripe with exactly the given batches counts the occurrences of its words in them
pub occurrences-whole : {C : Type 0} (setup : StripeSetup) (batches : List NumberedPieces) (i : ℕ) (stripe : StripeState C) → NumbersDiffer stripe.journal → IsWhole setup batches i stripe
    → stripe_occurrences stripe.setup stripe.number stripe.journal ≡ stripe_occurrences setup i batches
occurrences-whole setup batches i stripe differ whole =
    ap (λ s. stripe_occurrences s stripe.number stripe.journal) whole.own.same_setup
    ∙ ap (λ n. stripe_occurrences setup n stripe.journal) whole.own.same_number
    ∙ map-same (word_occurrences setup stripe.journal) (word_occurrences setup batches) (filter (λ word. eqb (stripe_of setup word) i) (range_with_len 0 (word_count setup)))
    (λ k d within. whole-occurrences setup batches i stripe differ whole (get_or (filter (λ word. eqb (stripe_of setup word) i) (range_with_len 0 (word_count setup))) k d))

-- what the occurrences of the words weigh that pass a test
abbrev weight : (setup : StripeSetup) (batches : List NumberedPieces) (h : ℕ → ℕ) (p : ℕ → Bool) → ℕ
weight setup batches h p = sum_by (λ word. cond (p word) (h (word_occurrences setup batches word)) 0) (range_with_len 0 (word_count setup))

weight-own : (setup : StripeSetup) (batches : List NumberedPieces) (h : ℕ → ℕ) (n : ℕ)
    → sum_by h (stripe_occurrences setup n batches) ≡ weight setup batches h (λ word. eqb (stripe_of setup word) n)
weight-own setup batches h n =
    sum_by-map h (word_occurrences setup batches) (filter (λ word. eqb (stripe_of setup word) n) (range_with_len 0 (word_count setup)))
    ∙ sum_by-filter (λ word. h (word_occurrences setup batches word)) (λ word. eqb (stripe_of setup word) n) (range_with_len 0 (word_count setup))

-- the words below the next stripe are those below this one and those of it
one-stripe-more : (stripe n size : ℕ) → cond (nat_lt stripe n) size 0 + cond (eqb stripe n) size 0 ≡ cond (nat_lt stripe (n + 1)) size 0
one-stripe-more stripe n size = grind (arith, nat_tests)

weight-more : (setup : StripeSetup) (batches : List NumberedPieces) (h : ℕ → ℕ) (n : ℕ)
    → weight setup batches h (λ word. nat_lt (stripe_of setup word) n) + weight setup batches h (λ word. eqb (stripe_of setup word) n)
    ≡ weight setup batches h (λ word. nat_lt (stripe_of setup word) (n + 1))
weight-more setup batches h n =
    let size = λ (word : ℕ). h (word_occurrences setup batches word) in
    let words = range_with_len 0 (word_count setup) in
    sym (sum_by-plus (λ word. cond (nat_lt (stripe_of setup word) n) (size word) 0) (λ word. cond (eqb (stripe_of setup word) n) (size word) 0) words)
    ∙ sum_by-same (λ word. cond (nat_lt (stripe_of setup word) n) (size word) 0 + cond (eqb (stripe_of setup word) n) (size word) 0)
    (λ word. cond (nat_lt (stripe_of setup word) (n + 1)) (size word) 0) words
    (λ i d within. one-stripe-more (stripe_of setup (get_or words i d)) n (size (get_or words i d)))

never-below : (stripe : ℕ) → nat_lt stripe 0 ≡ false
never-below stripe = grind (arith, nat_tests)

always-below : (stripe n : ℕ) → stripe < n → nat_lt stripe n ≡ true
always-below stripe n below = grind (arith, nat_tests, below)

weighed-before : (setup : StripeSetup) (batches : List NumberedPieces) (h : ℕ → ℕ) (n : ℕ)
    → sum_by h (first_counts (of_stripes setup batches) n) ≡ weight setup batches h (λ word. nat_lt (stripe_of setup word) n)
weighed-before setup batches h zero =
    sym (sum_by-zeros (λ word. cond (nat_lt (stripe_of setup word) 0) (h (word_occurrences setup batches word)) 0) (range_with_len 0 (word_count setup))
    (λ i d _. cond-false _ _ 0 (never-below (stripe_of setup (get_or (range_with_len 0 (word_count setup)) i d)))))
weighed-before setup batches h (suc n) =
    let counts = of_stripes setup batches in
    let next : n + 1 ≡ suc n = omega arith in
    ap (λ m. sum_by h (first_counts counts m)) (sym next)
    ∙ ap (sum_by h) (one-more counts n) ∙ sum_by-append h (first_counts counts n) (counts n)
    ∙ ap (λ x. x + sum_by h (counts n)) (weighed-before setup batches h n)
    ∙ ap (λ x. weight setup batches h (λ word. nat_lt (stripe_of setup word) n) + x) (weight-own setup batches h n)
    ∙ weight-more setup batches h n ∙ ap (λ m. weight setup batches h (λ word. nat_lt (stripe_of setup word) m)) next

-- ---- all stripes

-- they weigh what all words do
weighed-all : (setup : StripeSetup) (batches : List NumberedPieces) (h : ℕ → ℕ)
    → sum_by h (first_counts (of_stripes setup batches) (stripe_count setup)) ≡ sum_by (λ word. h (word_occurrences setup batches word)) (range_with_len 0 (word_count setup))
weighed-all setup batches h =
    weighed-before setup batches h (stripe_count setup)
    ∙ sum_by-same (λ word. cond (nat_lt (stripe_of setup word) (stripe_count setup)) (size word) 0) size words
    (λ i d _. cond-true (nat_lt (stripe_of setup (get_or words i d)) (stripe_count setup)) (size (get_or words i d)) 0
    (always-below (stripe_of setup (get_or words i d)) (stripe_count setup) (mod-lt _ (pow_pos setup.stripe_bits))))
  where
    words : List ℕ
    words = range_with_len 0 (word_count setup)

    size : ℕ → ℕ
    size word = h (word_occurrences setup batches word)

-- the counts of all stripes, as many as were joined
abbrev pub AreAllCounts : StripeSetup → List NumberedPieces → List ℕ → Type 0
AreAllCounts setup batches counts = counts ≡ first_counts (of_stripes setup batches) (stripe_count setup)

-- the tally whose counts they have
pub record HaveTally (setup : StripeSetup) (batches : List NumberedPieces) (counts : List ℕ) : Type 0 where
  pub tally : TallySeen
  pub is_tally : IsTallyOf setup.rule (reads_in batches) tally
  pub few : length tally.rows < 2 ^ 64
  pub weigh : (h : ℕ → ℕ) → h 0 ≡ 0 → sum_by h counts ≡ sum_by h (counts_of tally.rows)

few_numbers : (k n : ℕ) → k ≤ 31 → n ≤ 4 ^ k → n < 2 ^ 64
few_numbers k n short most = let all : 4 ^ k ≤ 4 ^ 31 = pow-le-pow_right (lit< tt) short in omega (arith, most, all)

have_tally : (setup : StripeSetup) (batches : List NumberedPieces) (counts : List ℕ) → setup.rule.k ≤ 31 → AreAllCounts setup batches counts → HaveTally setup batches counts
have_tally setup batches counts short are =
    let whole = has_tally setup.rule (reads_in batches) in
    record {
      tally = record { k = setup.rule.k; both = setup.rule.both; rows = whole.rows };
      is_tally = record { k = refl; both = refl; rows = whole.tally };
      few = few_numbers setup.rule.k (length whole.rows) short whole.few;
      weigh = λ h none. ap (sum_by h) are ∙ weighed-all setup batches h ∙ whole.weigh h none;
    }

-- there are fewer words than that
pub words-few : (setup : StripeSetup) (batches : List NumberedPieces) (counts : List ℕ) → setup.rule.k ≤ 31 → AreAllCounts setup batches counts → length counts < 2 ^ 64
words-few setup batches counts short are =
    let all = sym (sum_by-ones counts) ∙ ap (sum_by (λ _. 1)) are ∙ weighed-all setup batches (λ _. 1)
    ∙ sum_by-ones (range_with_len 0 (word_count setup)) ∙ length-range_with_len 0 (word_count setup) in
    few_numbers setup.rule.k (length counts) short (omega (arith, all))

-- ---- bins and statistics

-- the words in their bins are no more than fit
pub bins-few : (setup : StripeSetup) (batches : List NumberedPieces) (counts bins : List ℕ) → setup.rule.k ≤ 31 → AreAllCounts setup batches counts → bins ≡ bins_of counts → sum bins < 2 ^ 64
bins-few setup batches counts bins short are is =
    let have = have_tally setup batches counts short are in
    let words = distinct-bins have.tally.rows bins (is ∙ bins_of-same counts (counts_of have.tally.rows) have.weigh) have.is_tally.rows.ordered.present in
    omega (arith, words, have.few)

-- nor are their occurrences
pub total-few : (setup : StripeSetup) (batches : List NumberedPieces) (counts : List ℕ) → setup.rule.k ≤ 31 → AreAllCounts setup batches counts
    → position_sum setup.rule.k batches ≤ 2 ^ 62 → sum counts < 2 ^ 64
total-few setup batches counts short are few =
    let have = have_tally setup batches counts short are in
    let rows = have.tally.rows in
    let total : sum counts ≡ total_of rows = have.weigh (λ count. count) refl ∙ sum_by-map (λ (count : ℕ). count) (λ (row : Row). row.count) rows in
    let words = tally_total setup.rule (reads_in batches) rows have.is_tally.rows in
    let most = few_words setup batches in
    omega (arith, total, words, most, few)

-- four numbers that were found of them
pub record AreFoundOf (bins counts : List ℕ) (statistics : Statistics) : Type 0 where
  pub unique : statistics.unique ≡ bin_at bins 1
  pub distinct : statistics.distinct ≡ sum bins
  pub total : statistics.total ≡ sum counts
  pub greatest : statistics.greatest ≡ greatest_of counts

-- are the statistics of the tally, and the bins are its bins
pub numbers-of_tally : (setup : StripeSetup) (batches : List NumberedPieces) (counts : List ℕ) (numbers : Numbers) → setup.rule.k ≤ 31 → AreAllCounts setup batches counts
    → numbers.histogram ≡ bins_of counts → AreFoundOf numbers.histogram counts numbers.statistics → AreNumbersOfTally setup.rule (reads_in batches) numbers
numbers-of_tally setup batches counts numbers short are is found =
    let have = have_tally setup batches counts short are in
    let bins_are = is ∙ bins_of-same counts (counts_of have.tally.rows) have.weigh in
    record {
      tally = have.tally;
      is_tally = have.is_tally;
      bins_are = bins_are;
      few = have.few;
      statistics_are = statistics-are have.tally.rows numbers.histogram counts numbers.statistics (record {
        bins_are = bins_are;
        present = have.is_tally.rows.ordered.present;
        weigh = have.weigh;
        unique = found.unique;
        distinct = found.distinct;
        total = found.total;
        greatest = found.greatest;
      });
    }
