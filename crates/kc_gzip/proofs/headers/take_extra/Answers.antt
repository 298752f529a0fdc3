use Rattle.std.proofs.Common.{◌++◌, ◌≡◌, ◌+◌, ◌-◌, sym, ap, ◌∙◌, arith}
use Rattle.kc_gzip.specs.Buffer.{bits_left}
use Rattle.kc_gzip.specs.Fields.{left_at}
use Rattle.kc_gzip.proofs.FieldLemmas.{extra-missing, extra-fault, extra-some}
use Rattle.kc_gzip.proofs.headers.take_extra.Goals as goal

pub returns-then-left-gt0 : goal.returns-then-left-gt0
returns-then-left-gt0 c =
    extra-missing c.args.header c.args.left c.requires (bits_left c.args.bits.now) c.if-left-gt0.true (omega (arith, c.whole_bytes.ensures, c.min_count-count.ensures, c.if-count-eq0.true, c.if-left-gt0.true))

pub returns-in-Err : goal.returns-in-Err
returns-in-Err c =
    extra-fault c.args.header c.args.left c.min_count-count.result (bits_left c.args.bits.now) c.in-Err.fault (omega (arith, c.whole_bytes.ensures, c.min_count-count.ensures)) c.in-Err.ensures

pub returns-in-Ok : goal.returns-in-Ok
returns-in-Ok c = λ more w.
    let m = c.args.left - c.min_count-count.result in
    let sum : c.args.left ≡ c.min_count-count.result + m = omega (arith, c.min_count-count.ensures) in
    extra-some c.args.header c.args.left c.min_count-count.result m c.in-Ok.register c.requires sum (bits_left c.args.bits.now) (bits_left c.sum_bytes.new.bits) c.in-Ok.ensures more w
    ∙ ap (λ p. left_at p c.args.header.flags c.in-Ok.register (bits_left c.sum_bytes.new.bits ++ more)) (sym c.place_behind.ensures)
