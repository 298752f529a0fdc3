use Rattle.kc_kmer.proofs.WordCounts.{All-words_of, All-forms, length-words_of}
use Rattle.kc_kmer.proofs.word_laws.words_of_reads.Goals as goal

pub returns-clause-below : goal.returns-clause-below
returns-clause-below c = All-words_of

pub returns-clause-forms : goal.returns-clause-forms
returns-clause-forms c = All-forms

pub returns-clause-few : goal.returns-clause-few
returns-clause-few c = length-words_of
