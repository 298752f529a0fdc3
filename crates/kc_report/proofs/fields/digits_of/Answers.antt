use Rattle.std.proofs.Common.{◌+◌, ◌%◌, ◌<◌, get_or, arith, sym, refl}
use Rattle.kc_report.proofs.FieldLemmas.{digit-is, digits-more}
use Rattle.kc_report.proofs.fields.digits_of.Goals as goal

pub loop-i-preserved : goal.loop-i-preserved
loop-i-preserved c =
    let bytes = c.args.bytes.now in
    let i = c.loop-i.i in
    let b = get_or bytes i 0 in
    let small : b < 256 = omega arith in
    let is = digit-is b ((b + 208) % 256) small refl c.if-digit-gt9.false in
    digits-more bytes i ((b + 208) % 256) c.loop-i.invariant c.loop-i-test.true (sym is.1) c.if-digit-gt9.false refl
