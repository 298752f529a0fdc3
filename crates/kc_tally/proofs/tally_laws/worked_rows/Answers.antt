use Rattle.std.proofs.Common.{◌≡◌, ℕ, zero, suc, ◌+◌, ◌<◌, ◌≤◌, true, [], ◌∷◌, None, codes, refl, arith}
use Rattle.std.specs.Prelude.{slice_index}
use Rattle.std.proofs.lemmas.List.Elements.{All-from_recursion}
use Rattle.kc_fastx.specs.Reads.{read_of}
use Rattle.kc_kmer.specs.Letter.{is_base, code, base, complement}
use Rattle.kc_kmer.specs.Word.{number, text, form, canonical, reverse_complement}
use Rattle.kc_kmer.specs.Rule.{CountingRule, counting_all, with_list, is_listed}
use Rattle.kc_kmer.specs.Occurrences.{is_usable, word_at, form_at, counted_at, occurrences_in, occurrences}
use Rattle.kc_tally.specs.declared.row.Row.{Row}
use Rattle.kc_tally.specs.Tally.{row_of, count_of}
use Rattle.kc_tally.proofs.tally_laws.worked_rows.Goals as goal

rule : CountingRule
rule = counting_all 1 true

counts : (n : ℕ) → n < 4 → count_of (row_of 0 3 ∷ row_of 1 2 ∷ []) n ≡ occurrences rule (read_of (codes "AACGT") None ∷ read_of (codes "N") None ∷ []) (text 1 n)
unfolding rule occurrences occurrences_in counted_at is_listed number code form_at word_at is_usable is_base form canonical reverse_complement complement text base
counts zero h = refl
counts (suc zero) h = refl
counts (suc (suc zero)) h = refl
counts (suc (suc (suc zero))) h = refl
counts (suc (suc (suc (suc n)))) h = absurd (omega (arith, h))

listed : CountingRule
listed = with_list (counting_all 1 true) (1 ∷ [])

listed_counts : (n : ℕ) → n < 4 → count_of (row_of 1 2 ∷ []) n ≡ occurrences listed (read_of (codes "AACGT") None ∷ []) (text 1 n)
unfolding listed occurrences occurrences_in counted_at is_listed number code form_at word_at is_usable is_base form canonical reverse_complement complement text base
listed_counts zero h = refl
listed_counts (suc zero) h = refl
listed_counts (suc (suc zero)) h = refl
listed_counts (suc (suc (suc zero))) h = refl
listed_counts (suc (suc (suc (suc n)))) h = absurd (omega (arith, h))

rising : (k : ℕ) → k + 1 < 2 → slice_index (0 ∷ 1 ∷ []) k < slice_index (0 ∷ 1 ∷ []) (k + 1)
rising zero h = omega arith
rising (suc k) h = absurd (omega (arith, h))

pub returns-clause-tally : goal.returns-clause-tally
unfolding rule
returns-clause-tally c = record {
  ordered = record {
    rising = rising;
    words = All-from_recursion (λ (row : Row). row.word < 4) (row_of 0 3 ∷ row_of 1 2 ∷ []) (omega arith, (omega arith, tt));
    present = All-from_recursion (λ (row : Row). 1 ≤ row.count) (row_of 0 3 ∷ row_of 1 2 ∷ []) (omega arith, (omega arith, tt));
  };
  counts = counts;
}

pub returns-clause-listed : goal.returns-clause-listed
unfolding listed
returns-clause-listed c = record {
  ordered = record {
    rising = λ k h. absurd (omega (arith, h));
    words = All-from_recursion (λ (row : Row). row.word < 4) (row_of 1 2 ∷ []) (omega arith, tt);
    present = All-from_recursion (λ (row : Row). 1 ≤ row.count) (row_of 1 2 ∷ []) (omega arith, tt);
  };
  counts = listed_counts;
}
