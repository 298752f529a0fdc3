use Rattle.kc_report.proofs.TableAnswers.{table_of_text}
use Rattle.kc_report.proofs.table_laws.table_of_text.Goals as goal

pub returns : goal.returns
returns c = table_of_text
