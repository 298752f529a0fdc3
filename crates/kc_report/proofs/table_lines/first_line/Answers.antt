use Rattle.std.proofs.Common.{arith}
use Rattle.std.proofs.lemmas.List.{length-drop}
use Rattle.std.proofs.lemmas.Result.{err_from_is_err_and}
use Rattle.kc_gzip.proofs.IntakesLemmas.{filled_fails}
use Rattle.kc_report.proofs.LineLemmas.{line_found, none_found, filled_searched, ended_searched}
use Rattle.kc_report.proofs.LineLemmas.{no_line, none_before, came_more}
use Rattle.kc_report.proofs.table_lines.first_line.Goals as goal

pub returns-in-Some : goal.returns-in-Some
returns-in-Some g c =
    let bytes = c.searching.intake.bytes in
    let searched = c.searching.searched in
    let first = rw (c.split_at.ensures.back, c.as_slice-bytes.ensures) at c.in-Some.ensures in
    let high = first.0.high in
    let within = c.searching.invariant.within in (
      c.searching.invariant.filled,
      omega (arith, high, within, length-drop searched bytes),
      line_found bytes searched c.in-Some.end c.searching.invariant.none high first.1 first.0.before,
      c.searching.invariant.came,
    )

pub returns-in_err-fill : goal.returns-in_err-fill
returns-in_err-fill g c =
    let seen = g.R.Source.seen in
    let p = err_from_is_err_and c.from_residual.result c.from_residual.ensures.1 in
    let none = rw (c.split_at.ensures.back, c.as_slice-bytes.ensures) at c.in_default.ensures in
    let no_line = no_line c.searching.intake.bytes
    (none_found c.searching.intake.bytes c.searching.searched c.searching.invariant.none none) in
    rw (p.1, p.2) (
      filled_fails (seen c.fill.new.source) c.in_err-fill.field-0.0 c.searching.invariant.filled
          c.in_err-fill.ensures.filled,
      none_before c.args.intake.now c.searching.intake c.searching.invariant.came no_line,
    )

pub returns-then-not-branch : goal.returns-then-not-branch
returns-then-not-branch g c =
    let none = rw (c.split_at.ensures.back, c.as_slice-bytes.ensures) at c.in_default.ensures in
    ended_searched c.fill.new.self c.in_ok-fill.field-0 c.searching.invariant.filled
    (none_found c.searching.intake.bytes c.searching.searched c.searching.invariant.none none) c.if-not-branch.true
    c.in_ok-fill.ensures.filled

pub searching-preserved : goal.searching-preserved
searching-preserved g c =
    let none = rw (c.split_at.ensures.back, c.as_slice-bytes.ensures) at c.in_default.ensures in
    let searched = none_found c.searching.intake.bytes c.searching.searched c.searching.invariant.none none in
    let more = filled_searched c.in_ok-fill.field-0 c.searching.invariant.filled searched c.if-not-branch.false
    c.in_ok-fill.ensures.filled in
    let came = came_more c.in_ok-fill.field-0 c.searching.invariant.came searched c.if-not-branch.false
    c.in_ok-fill.ensures.filled c.fill.ensures.one_block in
    rw c.as_slice-bytes.ensures (record { filled = more.0; within = more.1; none = more.2; came = came })
