use Rattle.kc_combine.proofs.MergedLemmas.{all_counts_match, all_merged_text}
use Rattle.kc_combine.proofs.combining_laws.merged_texts.Goals as goal

pub returns-clause-matched : goal.returns-clause-matched
returns-clause-matched c = all_counts_match

pub returns-clause-text : goal.returns-clause-text
returns-clause-text c = all_merged_text
