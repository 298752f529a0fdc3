use Rattle.kc_report.proofs.TableAnswers.{one_answer}
use Rattle.kc_report.proofs.TableSearch.{answer}
use Rattle.kc_report.proofs.table_laws.one_table.Goals as goal

pub returns-clause-some : goal.returns-clause-some
returns-clause-some c = answer

pub returns-clause-only : goal.returns-clause-only
returns-clause-only c = one_answer
