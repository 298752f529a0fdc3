use Rattle.std.proofs.Common.{◌-◌, ap, sym, subst, ◌∙◌, arith}
use Rattle.std.specs.Prelude.{sum}
use Rattle.std.proofs.lemmas.Result.{err_from_is_err_and}
use Rattle.kc_io.specs.Sinks.{HasWritten, HasBegun}
use Rattle.kc_report.specs.Numbers.{IsCountOf}
use Rattle.kc_report.proofs.NumbersLemmas.{above_is, distinct_few, text_of_numbers}
use Rattle.kc_report.proofs.table_numbers.TableNumbers.write_histo.Goals as goal

pub sum_of-requires : goal.sum_of-requires
sum_of-requires g c =
    let (high, rows, is) = c.self.invariant in
    let all = ap sum c.deref.ensures.value in
    omega (arith, all, above_is is, distinct_few is)

pub overflow_sub-above : goal.overflow_sub-above
overflow_sub-above g c =
    let (high, rows, is) = c.self.invariant in
    let all = c.sum_of.ensures ∙ ap sum c.deref.ensures.value in
    omega (arith, all, above_is is)

pub returns-in_err-histo_by_blocks-clause-written : goal.returns-in_err-histo_by_blocks-clause-written
returns-in_err-histo_by_blocks-clause-written g c high rows counted =
    let seen = g.W.Sink.seen in
    let is = subst (IsCountOf high rows) (sym c.self.view_is) counted in
    let all = c.sum_of.ensures ∙ ap sum c.deref.ensures.value in
    let text = text_of_numbers is c.deref-2.result.now (c.self.inside.statistics.distinct - c.sum_of.result) c.deref-2.ensures.value (omega (arith, all, above_is is)) in
    let p = err_from_is_err_and c.from_residual.result c.from_residual.ensures.1 in
    rw p.1 (subst (HasBegun (seen c.args.writer.now) (seen c.histo_by_blocks.new.writer)) text c.in_err-histo_by_blocks.ensures)

pub returns-clause-written : goal.returns-clause-written
returns-clause-written g c high rows counted =
    let seen = g.W.Sink.seen in
    let is = subst (IsCountOf high rows) (sym c.self.view_is) counted in
    let all = c.sum_of.ensures ∙ ap sum c.deref.ensures.value in
    let text = text_of_numbers is c.deref-2.result.now (c.self.inside.statistics.distinct - c.sum_of.result) c.deref-2.ensures.value (omega (arith, all, above_is is)) in
    subst (HasWritten (seen c.args.writer.now) (seen c.histo_by_blocks.new.writer)) text c.in_ok-histo_by_blocks.ensures
