use Rattle.std.proofs.Common.{refl, ap, length}
use Rattle.std.proofs.lemmas.Result.{err_from_is_err_and}
use Rattle.kc_report.proofs.LineLemmas.{none_left, others_left}
use Rattle.kc_report.proofs.table_reading.is_last.Goals as goal

pub returns-in_err-more-clause-fault : goal.returns-in_err-more-clause-fault
returns-in_err-more-clause-fault g c =
    let p = err_from_is_err_and c.from_residual.result c.from_residual.ensures.1 in
    rw (p.1, p.2) c.in_err-more.ensures

pub returns-then-behind-eq0-clause-last : goal.returns-then-behind-eq0-clause-last
returns-then-behind-eq0-clause-last g c =
    let skips = c.in_ok-more.ensures in (
      c.in_ok-more.more,
      skips,
      none_left c.args.intake.bytes skips.0 c.args.count _ c.in_ok-more.more (ap length c.as_slice.ensures)
          c.if-behind-eq0.true skips.1,
    )

pub returns-else-behind-eq0-clause-last : goal.returns-else-behind-eq0-clause-last
returns-else-behind-eq0-clause-last g c =
    let skips = c.in_ok-more.ensures in (
      c.in_ok-more.more,
      skips,
      others_left c.args.intake.bytes skips.0 c.args.count _ _ (ap length c.as_slice.ensures)
          c.if-behind-eq0.false refl,
    )
