use Rattle.kc_report.proofs.MergingLemmas.{counts_match, merged_text}
use Rattle.kc_report.proofs.merging_laws.merged_text.Goals as goal

pub returns-clause-matched : goal.returns-clause-matched
returns-clause-matched c = counts_match

pub returns-clause-text : goal.returns-clause-text
returns-clause-text c = merged_text
