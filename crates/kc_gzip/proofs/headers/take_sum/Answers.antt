use Rattle.std.proofs.Common.{sym, ◌∙◌}
use Rattle.std.proofs.lemmas.Bool.{eq-eqb, ne_eqb}
use Rattle.kc_gzip.specs.Buffer.{bits_left}
use Rattle.kc_gzip.proofs.FieldLemmas.{sum-none, sum-fault, sum-wrong, sum-right}
use Rattle.kc_gzip.proofs.headers.take_sum.Goals as goal

pub returns-then-not-has_flag : goal.returns-then-not-has_flag
returns-then-not-has_flag c = (c.args.header.register, λ more w. sum-none c.args.header c.requires (sym c.has_flag.ensures ∙ c.if-not-has_flag.true) _)

pub returns-in-Err : goal.returns-in-Err
returns-in-Err c = sum-fault c.args.header c.requires (sym c.has_flag.ensures ∙ c.if-not-has_flag.false) (bits_left c.args.bits.now) c.in-Err.fault c.in-Err.ensures.read

pub returns-then-sum-check_sum : goal.returns-then-sum-check_sum
returns-then-sum-check_sum c =
    sum-wrong c.args.header c.requires (sym c.has_flag.ensures ∙ c.if-not-has_flag.false) (bits_left c.args.bits.now) (bits_left c.number.new.self) c.in-Ok.sum c.in-Ok.ensures.read
    (ne_eqb c.in-Ok.sum _ (λ same. c.if-sum-check_sum.true (same ∙ sym c.check_sum.ensures)))

pub returns : goal.returns
returns c = (
  c.args.header.register,
  λ more w.
      sum-right c.args.header c.requires (sym c.has_flag.ensures ∙ c.if-not-has_flag.false) (bits_left c.args.bits.now) (bits_left c.number.new.self) c.in-Ok.sum c.in-Ok.ensures.read
      (eq-eqb c.in-Ok.sum _ (c.if-sum-check_sum.false ∙ c.check_sum.ensures)) more w,
)
