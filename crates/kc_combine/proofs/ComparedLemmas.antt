-- The numbers of two compared tables: with one word more, and from the rows of the tables.
use Rattle.std.proofs.Common.{◌≡◌, ℕ, zero, suc, ◌+◌, ◌^◌, ◌≤◌, Bool, true, false, ◌&&◌, nat_le, if◌then◌else◌, cond}
use Rattle.std.proofs.Common.{List, [], ◌∷◌, ◌++◌, length, sum_by, count_by, refl, ap, sym, ◌∙◌, arith, lit<}
use Rattle.std.proofs.lemmas.Bool.{and_parts, eqb-true, le-leb}
use Rattle.std.proofs.lemmas.List.{length_push}
use Rattle.std.proofs.lemmas.List.Sums.{count_by-le-length, sum_by-append, sum_by-le-sum_by, sum_by_push}
use Rattle.std.proofs.Math.Nat.{pow-le-pow_right}
use Rattle.kc_lemmas.proofs.Sums.{count_by-all}
use Rattle.kc_tally.specs.declared.row.Row.{Row}
use Rattle.kc_tally.specs.Tally.{count_of, AreOrderedRows}
use Rattle.kc_combine.specs.declared.comparison.Comparison.{Comparison}
use Rattle.kc_combine.specs.Combined.{counts_in, none_has}
use Rattle.kc_combine.specs.Compared.{added, assembly_has, capped, capped_comparison, comparison_of, counts_below}
use Rattle.kc_combine.specs.Compared.{counts_of_words, in_assembly, in_reads, is_solid, only_assembly_has, reads_have}
use Rattle.kc_combine.specs.Compared.{CountsAssembly, CountsReads, NumbersFit, SumsAssembly, WordsFit}
use Rattle.kc_combine.proofs.ResultLemmas.{ordered_total, ordered_weight, sum_to}

-- ---- one word more

count_push : (test : List ℕ → Bool) (words : List (List ℕ)) (counts : List ℕ)
    → count_by test (words ++ counts ∷ []) ≡ count_by test words + count_by test (counts ∷ [])
count_push test words counts = sum_by-append (λ c. cond (test c) 1 0) words (counts ∷ [])

comparison_push : (solid : ℕ) (words : List (List ℕ)) (counts : List ℕ)
    → comparison_of solid (words ++ counts ∷ []) ≡ added (comparison_of solid words) (comparison_of solid (counts ∷ []))
comparison_push solid words counts =
    let reads = count_push reads_have words counts in
    let assembly = count_push assembly_has words counts in
    let shared = count_push (λ c. reads_have c && assembly_has c) words counts in
    let total = sum_by-append in_assembly words (counts ∷ []) in
    let only = count_push only_assembly_has words counts in
    let only_total = sum_by-append (λ c. if only_assembly_has c then in_assembly c else 0) words (counts ∷ []) in
    let solids = count_push (is_solid solid) words counts in
    let solids_shared = count_push (λ c. is_solid solid c && assembly_has c) words counts in
    λ i. record {
      reads_distinct = reads i;
      assembly_distinct = assembly i;
      shared_distinct = shared i;
      assembly_total = total i;
      assembly_only_distinct = only i;
      assembly_only_total = only_total i;
      solid_distinct = solids i;
      solid_shared = solids_shared i;
    }

-- what was cut off before is cut off from the sum
capped_sum : (some more : ℕ) → capped (capped some + more) ≡ capped (some + more)
capped_sum some more = omega arith

capped_added : (c d : Comparison) → capped_comparison (added (capped_comparison c) d) ≡ capped_comparison (added c d)
capped_added c d = λ i. record {
  reads_distinct = capped_sum c.reads_distinct d.reads_distinct i;
  assembly_distinct = capped_sum c.assembly_distinct d.assembly_distinct i;
  shared_distinct = capped_sum c.shared_distinct d.shared_distinct i;
  assembly_total = capped_sum c.assembly_total d.assembly_total i;
  assembly_only_distinct = capped_sum c.assembly_only_distinct d.assembly_only_distinct i;
  assembly_only_total = capped_sum c.assembly_only_total d.assembly_only_total i;
  solid_distinct = capped_sum c.solid_distinct d.solid_distinct i;
  solid_shared = capped_sum c.solid_shared d.solid_shared i;
}

-- the numbers with those of the next word
pub word_compared : (solid : ℕ) (words : List (List ℕ)) (counts : List ℕ) (before word after : Comparison)
    → before ≡ capped_comparison (comparison_of solid words) → word ≡ comparison_of solid (counts ∷ [])
    → after ≡ capped_comparison (added before word)
    → after ≡ capped_comparison (comparison_of solid (words ++ counts ∷ []))
word_compared solid words counts before word after has one sum =
    let more = comparison_of solid (counts ∷ []) in
    sum ∙ ap (λ d. capped_comparison (added before d)) one ∙ ap (λ c. capped_comparison (added c more)) has
    ∙ capped_added (comparison_of solid words) more ∙ ap capped_comparison (sym (comparison_push solid words counts))

-- ---- word by word

-- what a weight gives the words is what it gives all numbers below the bound, if it gives nothing to words that no
-- table has
weight_below : (weigh : List ℕ → ℕ) (bound : ℕ) (tables : List (List Row)) → ((counts : List ℕ) → none_has counts ≡ true → weigh counts ≡ 0)
    → sum_by weigh (counts_below bound tables) ≡ sum_to bound (λ n. weigh (counts_in tables n))
unfolding counts_below sum_to
weight_below weigh zero tables nothing = refl
weight_below weigh (suc n) tables nothing =
    next (none_has counts) refl ∙ ap (λ sum. sum + weigh counts) (weight_below weigh n tables nothing)
  where
    counts : List ℕ
    counts = counts_in tables n

    next : (b : Bool) → none_has counts ≡ b
        → sum_by weigh (if b then counts_below n tables else counts_below n tables ++ counts ∷ []) ≡ sum_by weigh (counts_below n tables) + weigh counts
    next true is = let none = nothing counts is in omega (arith, none)
    next false is = sum_by_push weigh (counts_below n tables) counts

-- a word that no table has is in neither
none_in_reads : (counts : List ℕ) → none_has counts ≡ true → in_reads counts ≡ 0
none_in_reads [] none = refl
none_in_reads (reads ∷ others) none = eqb-true reads 0 (and_parts _ (none_has others) none).0

none_in_assembly : (counts : List ℕ) → none_has counts ≡ true → in_assembly counts ≡ 0
none_in_assembly [] none = refl
none_in_assembly (reads ∷ others) none = none_in_reads others (and_parts _ (none_has others) none).1

-- ---- from the rows

-- rows in order are as many as the numbers below the bound that have a count
ordered_length : (bound : ℕ) (rows : List Row) → AreOrderedRows bound rows → length rows ≡ sum_to bound (λ n. cond (nat_le 1 (count_of rows n)) 1 0)
ordered_length bound rows are =
    sym (count_by-all (λ row. nat_le 1 row.count) rows (λ i row h. le-leb 1 _ (are.present i row h)))
    ∙ ordered_weight (λ count. cond (nat_le 1 count) 1 0) bound rows refl are

pub counts_reads : CountsReads
counts_reads k solid reads assembly are =
    weight_below (λ c. cond (nat_le 1 (in_reads c)) 1 0) (4 ^ k) (reads ∷ assembly ∷ [])
    (λ counts none. ap (λ n. cond (nat_le 1 n) 1 0) (none_in_reads counts none))
    ∙ sym (ordered_length (4 ^ k) reads are)

pub counts_assembly : CountsAssembly
counts_assembly k solid reads assembly are =
    weight_below (λ c. cond (nat_le 1 (in_assembly c)) 1 0) (4 ^ k) (reads ∷ assembly ∷ [])
    (λ counts none. ap (λ n. cond (nat_le 1 n) 1 0) (none_in_assembly counts none))
    ∙ sym (ordered_length (4 ^ k) assembly are)

pub sums_assembly : SumsAssembly
sums_assembly k solid reads assembly are =
    weight_below in_assembly (4 ^ k) (reads ∷ assembly ∷ []) none_in_assembly ∙ sym (ordered_total (4 ^ k) assembly are)

-- ---- the numbers fit

words_most : (bound : ℕ) (tables : List (List Row)) → length (counts_below bound tables) ≤ bound
unfolding counts_below
words_most zero tables = omega arith
words_most (suc n) tables =
    let rest = words_most n tables in
    let here = next (none_has (counts_in tables n)) in omega (arith, rest, here)
  where
    next : (b : Bool)
        → length (if b then counts_below n tables else counts_below n tables ++ counts_in tables n ∷ []) ≤ length (counts_below n tables) + 1
    next true = omega arith
    next false = let more = length_push (counts_below n tables) (counts_in tables n) in omega (arith, more)

pub words_fit : WordsFit
words_fit k tables short =
    let few = words_most (4 ^ k) tables in
    let most : 4 ^ k ≤ 4 ^ 31 = pow-le-pow_right (lit< tt) short in omega (arith, few, most)

-- a number up to 2^62 is not cut off
whole : (number : ℕ) → number ≤ 2 ^ 62 → capped number ≡ number
whole number most = omega (arith, most)

part : (b : Bool) (count : ℕ) → (if b then count else 0) ≤ count
part true count = omega arith
part false count = omega arith

pub numbers_fit : NumbersFit
numbers_fit k solid both reads assembly short in_first in_second =
    let words = counts_of_words k (reads ∷ assembly ∷ []) in
    let few = words_fit k (reads ∷ assembly ∷ []) short in
    let total : sum_by in_assembly words ≤ 2 ^ 62 =
    omega (arith, sums_assembly k solid reads assembly in_second.ordered, in_second.small) in
    let only_total : sum_by (λ c. if only_assembly_has c then in_assembly c else 0) words ≤ 2 ^ 62 =
    omega (arith, total, sum_by-le-sum_by (λ c. if only_assembly_has c then in_assembly c else 0) in_assembly words (λ c. part (only_assembly_has c) (in_assembly c))) in
    let counted : (test : List ℕ → Bool) → capped (count_by test words) ≡ count_by test words =
    λ test. whole (count_by test words) (omega (arith, count_by-le-length test words, few)) in
    λ i. record {
      reads_distinct = counted reads_have i;
      assembly_distinct = counted assembly_has i;
      shared_distinct = counted (λ c. reads_have c && assembly_has c) i;
      assembly_total = whole (sum_by in_assembly words) total i;
      assembly_only_distinct = counted only_assembly_has i;
      assembly_only_total = whole (sum_by (λ c. if only_assembly_has c then in_assembly c else 0) words) only_total i;
      solid_distinct = counted (is_solid solid) i;
      solid_shared = counted (λ c. is_solid solid c && assembly_has c) i;
    }
