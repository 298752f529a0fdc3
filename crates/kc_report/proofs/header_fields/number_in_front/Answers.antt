use Rattle.kc_report.proofs.HeaderLemmas.{number_told}
use Rattle.kc_report.proofs.header_fields.number_in_front.Goals as goal

pub returns : goal.returns
returns c = λ n stop rest small low e. number_told c.digits_of-number.ensures n stop rest small low e
