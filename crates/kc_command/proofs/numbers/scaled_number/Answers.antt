use Rattle.kc_command.proofs.NumbersLemmas.{times_unit}
use Rattle.kc_command.proofs.numbers.scaled_number.Goals as goal

pub returns-in_ok-number-in-Some : goal.returns-in_ok-number-in-Some
returns-in_ok-number-in-Some c =
    times_unit c.args.text.now c.in_ok-number-in-Some.field-0 c.in-Some.unit c.checked_mul.result c.in-len1-up.len_at_least c.in_ok-number-in-Some.ensures c.in-Some.ensures c.checked_mul.ensures
