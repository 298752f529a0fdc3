use Rattle.std.proofs.Common.{ℕ, zero, suc, List, [], ◌∷◌, Contains, ◌↔◌, None, true, false, refl, arith, subst, sym, ◌≡◌}
use Rattle.std.specs.Prelude.{codes}
use Rattle.std.specs.List.Sorted.{IsStrictlyIncreasing}
use Rattle.kc_fastx.specs.Reads.{Read, read_of}
use Rattle.kc_kmer.specs.Letter.{is_base, code, complement}
use Rattle.kc_kmer.specs.Word.{number, reverse_complement, canonical, form}
use Rattle.kc_kmer.specs.Rule.{CountingRule, is_listed, counting_all}
use Rattle.kc_kmer.specs.Occurrences.{is_usable, word_at, form_at, counted_at, words_in, words_of}
use Rattle.kc_word.specs.Only.{IsListOf}
use Rattle.kc_word.proofs.OnlyLemmas.{listed-words, list-of}
use Rattle.kc_word.proofs.only_laws.worked_rows.Goals as goal

-- ascending words that the reads have are their list
row : (rule : CountingRule) (reads : List Read) (words : List ℕ) → IsStrictlyIncreasing words → words_of rule reads ≡ words
    → IsListOf rule reads (record { k = rule.k; both = rule.both; words = words })
row rule reads words rising are =
    let same : (n : ℕ) → Contains words n ↔ Contains (words_of rule reads) n =
    subst (λ ws. (n : ℕ) → Contains words n ↔ Contains ws n) (sym are) (λ n. (λ h. h, λ h. h)) in
    list-of rule reads (record { k = rule.k; both = rule.both; words = words }) refl refl (listed-words rule reads words rising same) same

rising-two : IsStrictlyIncreasing (27 ∷ 44 ∷ [])
rising-two zero h = omega arith
rising-two (suc k) h = absurd (omega (arith, h))

two : words_of (counting_all 3 false) (read_of (codes "CGTA") None ∷ []) ≡ 27 ∷ 44 ∷ []
unfolding words_of words_in counted_at is_listed form_at word_at is_usable is_base form number code canonical reverse_complement complement
two = refl

one : words_of (counting_all 3 true) (read_of (codes "CGT") None ∷ []) ≡ 6 ∷ []
unfolding words_of words_in counted_at is_listed form_at word_at is_usable is_base form number code canonical reverse_complement complement
one = refl

broken : words_of (counting_all 3 false) (read_of (codes "CGNTA") None ∷ []) ≡ []
unfolding words_of words_in counted_at is_listed form_at word_at is_usable is_base form number code canonical reverse_complement complement
broken = refl

pub returns-clause-one_strand : goal.returns-clause-one_strand
returns-clause-one_strand c = row (counting_all 3 false) (read_of (codes "CGTA") None ∷ []) (27 ∷ 44 ∷ []) rising-two two

pub returns-clause-both_strands : goal.returns-clause-both_strands
returns-clause-both_strands c = row (counting_all 3 true) (read_of (codes "CGT") None ∷ []) (6 ∷ []) (λ k h. absurd (omega (arith, h))) one

pub returns-clause-none : goal.returns-clause-none
returns-clause-none c = row (counting_all 3 false) (read_of (codes "CGNTA") None ∷ []) [] (λ k h. absurd (omega (arith, h))) broken
