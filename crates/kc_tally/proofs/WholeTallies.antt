-- Reads have a tally, and its counts weigh what the occurrences of all words weigh.
use Rattle.std.proofs.Common.{◌≡◌, ℕ, zero, suc, ◌+◌, ◌^◌, ◌<◌, ◌≤◌, ⊎_elim, List, [], ◌∷◌, ◌++◌, length, sum_by, refl, ap, sym, ◌∙◌, subst, arith}
use Rattle.std.specs.List.{range_with_len}
use Rattle.std.proofs.lemmas.Bool.{cases_lt}
use Rattle.std.proofs.lemmas.List.{map_push, length_push}
use Rattle.std.proofs.lemmas.List.Sums.{sum_by-append, sum_by-cons}
use Rattle.kc_lemmas.proofs.Sums.{sum_by-range_more}
use Rattle.kc_fastx.specs.Reads.{Read}
use Rattle.kc_kmer.specs.Word.{text}
use Rattle.kc_kmer.specs.Rule.{CountingRule}
use Rattle.kc_kmer.specs.Occurrences.{occurrences}
use Rattle.kc_tally.specs.declared.row.Row.{Row}
use Rattle.kc_tally.specs.Tally.{row_of, IsTally}
use Rattle.kc_tally.specs.Histogram.{counts_of}
use Rattle.kc_tally.proofs.TalliedRows.{IsTalliedTo, IsTalliedTo-none, IsTalliedTo-yes, IsTalliedTo-no, IsTalliedTo-all}

-- the rows of the words below n, whose counts weigh what the occurrences of these words weigh, if none weighs nothing
record HasRows (rule : CountingRule) (reads : List Read) (n : ℕ) : Type 0 where
  pub rows : List Row
  pub tallied : IsTalliedTo rule reads n rows
  pub few : length rows ≤ n
  pub weigh : (h : ℕ → ℕ) → h 0 ≡ 0 → sum_by (λ word. h (occurrences rule reads (text rule.k word))) (range_with_len 0 n) ≡ sum_by h (counts_of rows)

sum_by-push : (h : ℕ → ℕ) (counts : List ℕ) (count : ℕ) → sum_by h (counts ++ count ∷ []) ≡ sum_by h counts + h count
sum_by-push h counts count =
    let split = sum_by-append h counts (count ∷ []) in
    let last = sum_by-cons h count [] in
    omega (arith, split, last)

rows-more : (rule : CountingRule) (reads : List Read) (n : ℕ) → HasRows rule reads n → HasRows rule reads (n + 1)
rows-more rule reads n before =
    ⊎_elim
    (λ (some : 0 < count). record {
      rows = before.rows ++ row_of n count ∷ [];
      tallied = IsTalliedTo-yes rule reads n count before.rows some refl before.tallied;
      few = let long = length_push before.rows (row_of n count) in omega (arith, long, before.few);
      weigh = λ h none.
          more h ∙ ap (λ sum. sum + h count) (before.weigh h none) ∙ sym (sum_by-push h (counts_of before.rows) count)
          ∙ ap (sum_by h) (sym (map_push (λ (row : Row). row.count) before.rows (row_of n count)));
    })
    (λ (never : count ≤ 0). record {
      rows = before.rows;
      tallied = IsTalliedTo-no rule reads n count before.rows never refl before.tallied;
      few = omega (arith, before.few);
      weigh = λ h none.
          let same : h count ≡ 0 = ap h (absent never) ∙ none in
          let step = more h in
          let rest = before.weigh h none in
          omega (arith, same, step, rest);
    })
    (cases_lt 0 count)
  where
    count : ℕ
    count = occurrences rule reads (text rule.k n)

    absent : count ≤ 0 → count ≡ 0
    absent never = omega (arith, never)

    more : (h : ℕ → ℕ) → sum_by (λ word. h (occurrences rule reads (text rule.k word))) (range_with_len 0 (n + 1))
        ≡ sum_by (λ word. h (occurrences rule reads (text rule.k word))) (range_with_len 0 n) + h count
    more h = sum_by-range_more (λ word. h (occurrences rule reads (text rule.k word))) n

rows-below : (rule : CountingRule) (reads : List Read) (n : ℕ) → HasRows rule reads n
rows-below rule reads zero = record { rows = []; tallied = IsTalliedTo-none rule reads; few = omega arith; weigh = λ h none. refl }
rows-below rule reads (suc n) = subst (HasRows rule reads) (next n) (rows-more rule reads n (rows-below rule reads n))
  where
    next : (m : ℕ) → m + 1 ≡ suc m
    next m = omega arith

-- the tally of the reads
pub record HasTally (rule : CountingRule) (reads : List Read) : Type 0 where
  pub rows : List Row
  pub tally : IsTally rule reads rows
  pub few : length rows ≤ 4 ^ rule.k
  pub weigh : (h : ℕ → ℕ) → h 0 ≡ 0
      → sum_by (λ word. h (occurrences rule reads (text rule.k word))) (range_with_len 0 (4 ^ rule.k)) ≡ sum_by h (counts_of rows)

pub has_tally : (rule : CountingRule) (reads : List Read) → HasTally rule reads
has_tally rule reads =
    let whole = rows-below rule reads (4 ^ rule.k) in
    record { rows = whole.rows; tally = IsTalliedTo-all rule reads (4 ^ rule.k) whole.rows refl whole.tallied; few = whole.few; weigh = whole.weigh }
