-- A rule makes one list of rows of the tables, and what is known of its words and counts.
use Rattle.std.proofs.Common.{◌≡◌, ℕ, zero, suc, ◌+◌, ◌^◌, ◌<◌, ◌≤◌, ⊎_elim, ◌⊎◌, List, [], ◌∷◌, ◌++◌, get_or, sum_by, All, refl, ap, ap₂, sym, ◌∙◌, subst, arith, inl, inr}
use Rattle.std.proofs.lemmas.Bool.{cases_lt, cases_eq}
use Rattle.std.proofs.lemmas.List.Elements.{All-nil}
use Rattle.std.proofs.lemmas.List.Sums.{sum_by-cons}
use Rattle.kc_kmer.specs.Word.{text, form}
use Rattle.kc_tally.specs.declared.row.Row.{Row}
use Rattle.kc_tally.specs.Tally.{row_of, count_of, total_of, AreOrderedRows, AreRows}
use Rattle.kc_tally.specs.Sum.{IsSum}
use Rattle.kc_tally.proofs.Tallies.{RiseWithin, RiseWithin-rest, count_of-here, count_of-low, count_of-past, one_sum, ordered-RiseWithin}
use Rattle.kc_combine.specs.Combined.{AreCombinedBelow, counts_in, no_counts_in, sum_of, IsCombined, TakesRow}
use Rattle.kc_combine.specs.Laws.{HasOneResult, HasResult, MakesRows, SumsTwo, TotalOfSum, TotalWithinFirst}
use Rattle.kc_combine.proofs.BoundLemmas.{count_of_row}
use Rattle.kc_combine.proofs.CombinedLemmas.{ordered_within, taken_apart, taken_here, taken_ordered}

-- ---- one result

-- the counts and the order alone make them one: rows with the counts of others are the sum of these and none
pub one_result : HasOneResult
one_result k rule tables rows others is also = one_sum k rows [] rows others
    (record { ordered = is.ordered; counts = λ n h. omega arith })
    (record { ordered = also.ordered; counts = λ n h. let same = also.counts n h ∙ sym (is.counts n h) in omega (arith, same) })

-- the words below n, with the rule's results for their counts
record IsMadeTo (n : ℕ) (rule : List ℕ → ℕ) (tables : List (List Row)) (rows : List Row) : Type 0 where
  ordered : AreOrderedRows n rows
  counts : (m : ℕ) → m < n → count_of rows m ≡ rule (counts_in tables m)

puts_row : (n count : ℕ) (rows : List Row) → (more : List Row) × TakesRow rows more n count
puts_row n zero rows = (rows, inr (refl, refl))
puts_row n (suc count) rows = (rows ++ row_of n (suc count) ∷ [], inl (refl, omega arith))

made_more : (n : ℕ) (rule : List ℕ → ℕ) (tables : List (List Row)) (rows more : List Row) → IsMadeTo n rule tables rows
    → TakesRow rows more n (rule (counts_in tables n)) → IsMadeTo (suc n) rule tables more
made_more n rule tables rows more is put = record {
  ordered = ordered_within (n + 1) (suc n) more (omega arith)
      (taken_ordered n n (rule (counts_in tables n)) rows more (omega arith) is.ordered put);
  counts = λ m h. ⊎_elim
      (λ less. taken_apart n (rule (counts_in tables n)) m rows more (λ e. omega (arith, e, less)) put ∙ is.counts m less)
      (λ not. let same : n ≡ m = omega (arith, h, not) in
      subst (λ i. count_of more i ≡ rule (counts_in tables i)) same
      (taken_here n n (rule (counts_in tables n)) rows more (omega arith) is.ordered put))
      (cases_lt m n);
}

made_to : (n : ℕ) (rule : List ℕ → ℕ) (tables : List (List Row)) → (rows : List Row) × IsMadeTo n rule tables rows
made_to zero rule tables = (
  [],
  record {
    ordered = record { rising = λ k h. absurd (omega (arith, h)); words = All-nil _; present = All-nil _ };
    counts = λ m h. absurd (omega (arith, h));
  },
)
made_to (suc n) rule tables =
    let before = made_to n rule tables in
    let put = puts_row n (rule (counts_in tables n)) before.0 in
    (put.0, made_more n rule tables before.0 put.0 before.1 put.1)

pub has_result : HasResult
has_result k rule tables =
    let made = made_to (4 ^ k) rule tables in
    (made.0, record { ordered = made.1.ordered; counts = made.1.counts })

-- ---- two tables

pub sums_two : (k : ℕ) (rows others sums : List Row) → IsCombined k sum_of (rows ∷ others ∷ []) sums → IsSum k rows others sums
sums_two k rows others sums is = record {
  ordered = is.ordered;
  counts = λ n h. let whole = is.counts n h in omega (arith, whole);
}

pub two_summed : (k : ℕ) (rows others sums : List Row) → IsSum k rows others sums → IsCombined k sum_of (rows ∷ others ∷ []) sums
two_summed k rows others sums is = record {
  ordered = is.ordered;
  counts = λ n h. let whole = is.counts n h in omega (arith, whole);
}

pub sum_of_two : SumsTwo
sum_of_two k rows others sums = (sums_two k rows others sums, two_summed k rows others sums)

-- ---- words under their form

-- a word with a count has a row
has_row : (P : Row → Type 0) (n : ℕ) (rows : List Row) → 1 ≤ count_of rows n → All P rows
    → (row : Row) × (row.word ≡ n) × P row
has_row P n [] some all = absurd (omega (arith, some))
has_row P n (row ∷ rows) some all =
    ⊎_elim
    (λ (is : row.word ≡ n). (row, is, all zero row (omega arith)))
    (λ (ne : row.word ≡ n → ⊥). let past = count_of-past row rows n ne in
    has_row P n rows (omega (arith, past, some)) (λ i d h. all (suc i) d (omega (arith, h))))
    (cases_eq row.word n)

-- a table has the word, or none has
have_word : (P : List Row → Type 0) (n : ℕ) (tables : List (List Row)) → All P tables
    → ((table : List Row) × P table × (1 ≤ count_of table n)) ⊎ (counts_in tables n ≡ no_counts_in tables)
have_word P n [] all = inr refl
have_word P n (table ∷ tables) all = ⊎_elim
    (λ (none : count_of table n < 1). ⊎_elim
    (λ (some : (table : List Row) × P table × (1 ≤ count_of table n)). inl some)
    (λ (rest : counts_in tables n ≡ no_counts_in tables). let here : count_of table n ≡ 0 = omega (arith, none) in
    inr (ap₂ (λ c cs. c ∷ cs) here rest))
    (have_word P n tables (λ i d h. all (suc i) d (omega (arith, h)))))
    (λ (some : 1 ≤ count_of table n). inl (table, all zero table (omega arith), some))
    (cases_lt (count_of table n) 1)

pub makes_rows : MakesRows
makes_rows k both rule tables rows nothing are is small = record {
  ordered = is.ordered;
  forms = λ i row h. formed (get_or rows i row).word (
      let itself = count_of_row 0 (4 ^ k) rows (ordered-RiseWithin (4 ^ k) rows is.ordered) i row h in
      let some = is.ordered.present i row h in
      let made = is.counts (get_or rows i row).word (is.ordered.words i row h) in
      omega (arith, itself, some, made)
      );
  small = small;
} where
  of_table : (n : ℕ) → (table : List Row) × AreRows k both table × (1 ≤ count_of table n) → form both (text k n) ≡ text k n
  of_table n has =
      let row = has_row (λ row. form both (text k row.word) ≡ text k row.word) n has.0 has.2 has.1.forms in
      subst (λ m. form both (text k m) ≡ text k m) row.1 row.2

  formed : (n : ℕ) → 1 ≤ rule (counts_in tables n) → form both (text k n) ≡ text k n
  formed n some = ⊎_elim
      (λ has. of_table n has)
      (λ none. let gone = ap rule none ∙ nothing tables in absurd (omega (arith, some, gone)))
      (have_word (λ table. AreRows k both table) n tables are)

-- ---- how much is counted

-- the sum of what is at the numbers below n
unfoldable pub sum_to : ℕ → (ℕ → ℕ) → ℕ
sum_to zero f = 0
sum_to (suc n) f = sum_to n f + f n

pub sum_to_same : (n : ℕ) (f g : ℕ → ℕ) → ((m : ℕ) → m < n → f m ≡ g m) → sum_to n f ≡ sum_to n g
unfolding sum_to
sum_to_same zero f g same = refl
sum_to_same (suc n) f g same = ap₂ (λ a b. a + b) (sum_to_same n f g (λ m h. same m (omega (arith, h)))) (same n (omega arith))

sum_to_most : (n : ℕ) (f g : ℕ → ℕ) → ((m : ℕ) → m < n → f m ≤ g m) → sum_to n f ≤ sum_to n g
unfolding sum_to
sum_to_most zero f g most = omega arith
sum_to_most (suc n) f g most =
    let rest = sum_to_most n f g (λ m h. most m (omega (arith, h))) in
    let here = most n (omega arith) in omega (arith, rest, here)

sum_to_none : (n : ℕ) (f : ℕ → ℕ) → ((m : ℕ) → f m ≡ 0) → sum_to n f ≡ 0
unfolding sum_to
sum_to_none zero f none = refl
sum_to_none (suc n) f none = let rest = sum_to_none n f none in let here = none n in omega (arith, rest, here)

sum_to_both : (n : ℕ) (f g : ℕ → ℕ) → sum_to n (λ m. f m + g m) ≡ sum_to n f + sum_to n g
unfolding sum_to
sum_to_both zero f g = refl
sum_to_both (suc n) f g = let rest = sum_to_both n f g in omega (arith, rest)

-- of one word alone, by a weight of its count
weight_before : (weigh : ℕ → ℕ) (n word count : ℕ) → weigh 0 ≡ 0 → n ≤ word
    → sum_to n (λ m. weigh (count_of (row_of word count ∷ []) m)) ≡ 0
unfolding sum_to
weight_before weigh zero word count nothing h = refl
weight_before weigh (suc n) word count nothing h =
    let rest = weight_before weigh n word count nothing (omega (arith, h)) in
    let here = ap weigh (count_of-past (row_of word count) [] n (λ e. omega (arith, e, h))) ∙ nothing in
    omega (arith, rest, here)

weight_of_one : (weigh : ℕ → ℕ) (n word count : ℕ) → weigh 0 ≡ 0 → word < n
    → sum_to n (λ m. weigh (count_of (row_of word count ∷ []) m)) ≡ weigh count
unfolding sum_to
weight_of_one weigh zero word count nothing h = absurd (omega (arith, h))
weight_of_one weigh (suc n) word count nothing h = ⊎_elim
    (λ (e : word ≡ n). let rest = weight_before weigh n word count nothing (omega (arith, e)) in
    let here = ap weigh (count_of-here (row_of word count) [] n e) in omega (arith, rest, here))
    (λ (ne : word ≡ n → ⊥). let rest = weight_of_one weigh n word count nothing (omega (arith, h, ne)) in
    let here = ap weigh (count_of-past (row_of word count) [] n ne) ∙ nothing in omega (arith, rest, here))
    (cases_eq word n)

-- the first row, and the others
apart : (weigh : ℕ → ℕ) (row : Row) (rows : List Row) (m : ℕ) → weigh 0 ≡ 0 → count_of rows row.word ≡ 0
    → weigh (count_of (row ∷ rows) m) ≡ weigh (count_of (row_of row.word row.count ∷ []) m) + weigh (count_of rows m)
apart weigh row rows m nothing none = ⊎_elim
    (λ (e : row.word ≡ m). let whole = ap weigh (count_of-here row rows m e) in
    let one = ap weigh (count_of-here (row_of row.word row.count) [] m e) in
    let gone = ap weigh (ap (count_of rows) (sym e) ∙ none) ∙ nothing in omega (arith, whole, one, gone))
    (λ (ne : row.word ≡ m → ⊥). let whole = ap weigh (count_of-past row rows m ne) in
    let one = ap weigh (count_of-past (row_of row.word row.count) [] m ne) ∙ nothing in omega (arith, whole, one))
    (cases_eq row.word m)

-- the weights of the counts of rows in order are those of all words together
weight_by_words : (weigh : ℕ → ℕ) (low bound : ℕ) (rows : List Row) → weigh 0 ≡ 0 → RiseWithin low bound rows
    → sum_by (λ row. weigh row.count) rows ≡ sum_to bound (λ m. weigh (count_of rows m))
weight_by_words weigh low bound [] nothing rise = sym (sum_to_none bound (λ m. weigh 0) (λ m. nothing))
weight_by_words weigh low bound (row ∷ rows) nothing rise =
    let later = RiseWithin-rest low bound row rows rise in
    let none = count_of-low (suc row.word) rows row.word later.rises (omega arith) in
    let rest = weight_by_words weigh (suc row.word) bound rows nothing later in
    let whole = sum_by-cons (λ (row : Row). weigh row.count) row rows in
    let alone = λ (m : ℕ). weigh (count_of (row_of row.word row.count ∷ []) m) in
    let others = λ (m : ℕ). weigh (count_of rows m) in
    let split = sum_to_same bound (λ m. weigh (count_of (row ∷ rows) m)) (λ m. alone m + others m)
    (λ m h. apart weigh row rows m nothing none) in
    let both = sum_to_both bound alone others in
    let one = weight_of_one weigh bound row.word row.count nothing (rise.below zero row (omega arith)) in
    omega (arith, rest, whole, split, both, one)

pub ordered_weight : (weigh : ℕ → ℕ) (bound : ℕ) (rows : List Row) → weigh 0 ≡ 0 → AreOrderedRows bound rows
    → sum_by (λ row. weigh row.count) rows ≡ sum_to bound (λ m. weigh (count_of rows m))
ordered_weight weigh bound rows nothing are = weight_by_words weigh 0 bound rows nothing (ordered-RiseWithin bound rows are)

-- the counts themselves
pub ordered_total : (bound : ℕ) (rows : List Row) → AreOrderedRows bound rows → total_of rows ≡ sum_to bound (count_of rows)
ordered_total bound rows are = ordered_weight (λ count. count) bound rows refl are

totals_by_words : (bound : ℕ) (tables : List (List Row)) → All (λ table. AreOrderedRows bound table) tables
    → sum_by total_of tables ≡ sum_to bound (λ n. sum_of (counts_in tables n))
totals_by_words bound [] are = sym (sum_to_none bound (λ n. 0) (λ n. refl))
totals_by_words bound (table ∷ tables) are =
    let here = ordered_total bound table (are zero table (omega arith)) in
    let rest = totals_by_words bound tables (λ i d h. are (suc i) d (omega (arith, h))) in
    let whole = sum_by-cons total_of table tables in
    let both = sum_to_both bound (count_of table) (λ n. sum_of (counts_in tables n)) in
    let split = sum_to_same bound (λ n. sum_of (counts_in (table ∷ tables) n)) (λ n. count_of table n + sum_of (counts_in tables n))
    (λ n h. sum_by-cons (λ count. count) (count_of table n) (counts_in tables n)) in
    omega (arith, here, rest, whole, both, split)

-- what sums combine below a bound has the counts of the tables
pub total_below : (bound : ℕ) (tables : List (List Row)) (rows : List Row) → AreCombinedBelow bound sum_of tables rows
    → total_of rows ≡ sum_by total_of tables
total_below bound tables rows are =
    ordered_total bound rows are.ordered
    ∙ sum_to_same bound (count_of rows) (λ n. sum_of (counts_in tables n)) are.counts
    ∙ sym (totals_by_words bound tables are.given)

pub total_of_sum : TotalOfSum
total_of_sum k tables rows are is =
    total_below (4 ^ k) tables rows (record { ordered = is.ordered; given = are; counts = is.counts })

pub total_within_first : TotalWithinFirst
total_within_first k rule first others rows keeps are is =
    let whole = ordered_total (4 ^ k) rows is.ordered in
    let given = ordered_total (4 ^ k) first are in
    let most = sum_to_most (4 ^ k) (count_of rows) (count_of first) (λ n h.
    let made = is.counts n h in
    let kept = keeps (counts_in (first ∷ others) n) in
    omega (arith, made, kept)) in
    omega (arith, whole, given, most)
