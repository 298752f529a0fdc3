use Rattle.std.proofs.Common.{◌≡◌, ◌+◌, ◌%◌, ◌<◌, get_or, arith}
use Rattle.kc_report.proofs.FieldLemmas.{digit_said}
use Rattle.kc_report.proofs.fields.digit_of.Goals as goal

pub returns-clause-some : goal.returns-clause-some
returns-clause-some c =
    let fields = c.args.fields.now in
    let long = c.if-fields-lt3.false in
    let least = c.if-digit-gt9.false in
    let byte : get_or fields 1 0 < 256 = omega arith in
    let digit : get_or fields 1 0 ≡ 48 + (get_or fields 1 0 + 208) % 256 = omega (arith, least, byte) in
    digit_said fields ((get_or fields 1 0 + 208) % 256) long c.if-fields-ne32.false digit c.if-fields-ne10.false
    (omega (arith, least))
