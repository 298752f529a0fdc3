use Rattle.std.proofs.Common.{◌++◌, sym, ap, ◌∙◌}
use Rattle.kc_gzip.specs.Buffer.{bits_left}
use Rattle.kc_gzip.specs.Fields.{left_at}
use Rattle.kc_gzip.proofs.FieldLemmas.{comment-none, comment-fault, comment-some}
use Rattle.kc_gzip.proofs.headers.take_comment.Goals as goal

pub returns-then-not-has_flag : goal.returns-then-not-has_flag
returns-then-not-has_flag c = λ more w. comment-none c.args.header c.requires (sym c.has_flag.ensures ∙ c.if-not-has_flag.true) _

pub returns-in-Err : goal.returns-in-Err
returns-in-Err c = comment-fault c.args.header c.requires (sym c.has_flag.ensures ∙ c.if-not-has_flag.false) (bits_left c.args.bits.now) c.in-Err.fault c.in-Err.ensures

pub returns-in-Ok : goal.returns-in-Ok
returns-in-Ok c = λ more w.
    comment-some c.args.header c.requires (sym c.has_flag.ensures ∙ c.if-not-has_flag.false) (bits_left c.args.bits.now) (bits_left c.sum_letters.new.bits) c.in-Ok.register c.in-Ok.ended c.in-Ok.ensures more w
    ∙ ap (λ p. left_at p c.args.header.flags c.in-Ok.register (bits_left c.sum_letters.new.bits ++ more)) (sym c.place_after.ensures)
