use Rattle.std.proofs.Common.{refl}
use Rattle.kc_kmer.specs.Letter.{is_base, code, base, complement}
use Rattle.kc_kmer.specs.Word.{number, text, reverse_complement, canonical, form}
use Rattle.kc_kmer.specs.Rule.{is_listed}
use Rattle.kc_kmer.specs.Occurrences.{is_usable, word_at, form_at, counted_at, occurrences_in, occurrences, words_in}
use Rattle.kc_kmer.proofs.word_laws.worked_rows.Goals as goal

pub returns-clause-text : goal.returns-clause-text
unfolding text base
returns-clause-text c = refl

pub returns-clause-number : goal.returns-clause-number
unfolding number code
returns-clause-number c = refl

pub returns-clause-greatest : goal.returns-clause-greatest
unfolding number code
returns-clause-greatest c = refl

pub returns-clause-other_strand : goal.returns-clause-other_strand
unfolding reverse_complement complement
returns-clause-other_strand c = refl

pub returns-clause-canonical : goal.returns-clause-canonical
unfolding canonical reverse_complement complement
returns-clause-canonical c = refl

pub returns-clause-words : goal.returns-clause-words
unfolding words_in counted_at is_listed form_at word_at is_usable is_base form number code
returns-clause-words c = refl

pub returns-clause-both_strands : goal.returns-clause-both_strands
unfolding words_in counted_at is_listed form_at word_at is_usable is_base form number code canonical reverse_complement complement
returns-clause-both_strands c = refl

pub returns-clause-broken : goal.returns-clause-broken
unfolding words_in counted_at is_listed form_at word_at is_usable is_base form number code
returns-clause-broken c = refl

pub returns-clause-low_quality : goal.returns-clause-low_quality
unfolding words_in counted_at is_listed form_at word_at is_usable is_base form number code
returns-clause-low_quality c = refl

pub returns-clause-palindrome : goal.returns-clause-palindrome
unfolding occurrences occurrences_in counted_at is_listed number code form_at word_at is_usable is_base form canonical reverse_complement complement
returns-clause-palindrome c = refl

pub returns-clause-one_listed : goal.returns-clause-one_listed
unfolding words_in counted_at is_listed form_at word_at is_usable is_base form number code
returns-clause-one_listed c = refl

pub returns-clause-listed_form : goal.returns-clause-listed_form
unfolding words_in counted_at is_listed form_at word_at is_usable is_base form number code canonical reverse_complement complement
returns-clause-listed_form c = refl

pub returns-clause-none_listed : goal.returns-clause-none_listed
unfolding words_in counted_at is_listed form_at word_at is_usable is_base form number code
returns-clause-none_listed c = refl
