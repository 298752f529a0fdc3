use Rattle.kc_report.proofs.TableAnswers.{same_tally}
use Rattle.kc_report.proofs.table_laws.one_spelling.Goals as goal

pub returns-clause-text : goal.returns-clause-text
returns-clause-text c = λ bytes tally origin h. h.whole

pub returns-clause-tally : goal.returns-clause-tally
returns-clause-tally c = same_tally
