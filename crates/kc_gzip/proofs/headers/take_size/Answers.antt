use Rattle.std.proofs.Common.{◌+◌, ◌*◌, ◌++◌, sym, ap, ◌∙◌}
use Rattle.kc_gzip.specs.Buffer.{bits_left}
use Rattle.kc_gzip.specs.Crc.{register_after_byte}
use Rattle.kc_gzip.specs.Fields.{extra_left}
use Rattle.kc_gzip.proofs.FieldLemmas.{size-none, size-low, size-high, size-some}
use Rattle.kc_gzip.proofs.headers.take_size.Goals as goal

pub returns-then-not-has_flag : goal.returns-then-not-has_flag
returns-then-not-has_flag c = λ more w. size-none c.args.header c.requires (sym c.has_flag.ensures ∙ c.if-not-has_flag.true) _

pub returns-in-Err : goal.returns-in-Err
returns-in-Err c = size-low c.args.header c.requires (sym c.has_flag.ensures ∙ c.if-not-has_flag.false) (bits_left c.args.bits.now) c.in-Err.fault c.in-Err.ensures.read

pub returns-in-Err-number : goal.returns-in-Err-number
returns-in-Err-number c =
    size-high c.args.header c.requires (sym c.has_flag.ensures ∙ c.if-not-has_flag.false) (bits_left c.args.bits.now) (bits_left c.number.new.self) c.in-Ok.low c.in-Err-number.fault c.in-Ok.ensures.read
    c.in-Err-number.ensures.read

pub returns : goal.returns
returns c = λ more w.
    size-some c.args.header c.requires (sym c.has_flag.ensures ∙ c.if-not-has_flag.false) (bits_left c.args.bits.now) (bits_left c.number.new.self) (bits_left c.number-2.new.self) c.in-Ok.low c.in-Ok-number.high
    c.in-Ok.ensures.read c.in-Ok-number.ensures.read more w
    ∙ ap (λ r. extra_left c.args.header.flags (c.in-Ok.low + 256 * c.in-Ok-number.high) r (bits_left c.number-2.new.self ++ more)) (ap (λ r. register_after_byte r c.in-Ok-number.high) (sym c.crc_after_byte.ensures) ∙ sym c.crc_after_byte-2.ensures)
