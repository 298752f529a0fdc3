use Rattle.std.proofs.Common.{◌∙◌, ap, sym, subst, take, refl}
use Rattle.std.proofs.lemmas.Result.{err_from_is_err_and}
use Rattle.kc_report.specs.RowByRow.{TableStand, tally_of, IsKeptOf}
use Rattle.kc_report.proofs.LineLemmas.{ends_used, ends_found}
use Rattle.kc_report.proofs.TableReadingLemmas.{in_front, reached_more, not_both, row_taking_refused}
use Rattle.kc_report.proofs.TableReadingLemmas.{row_refused, end_missing, end_refused, table_given}
use Rattle.kc_report.proofs.TableReadingLemmas.{no_row_before, no_row_in_line, no_row_at_end}
use Rattle.kc_report.proofs.RowByRowLemmas.{reached, end_is, line_given, no_row_kept, line_number, fault_of_none}
use Rattle.kc_report.proofs.RowByRowLemmas.{no_row_now}
use Rattle.kc_report.proofs.table_reading.TableReading.row_of_line.Goals as goal

pub returns-in_err-count-clause-given : goal.returns-in_err-count-clause-given
returns-in_err-count-clause-given g c = λ start limit rows h.
    let found = c.in_err-count.ensures in
    let p = err_from_is_err_and c.from_residual.result c.from_residual.ensures.1 in
    rw (p.1, p.2) (row_taking_refused (tally_of c.args.self.now rows) (g.S.Source.seen c.first_line.new.reader)
    c.in_err-count.field-0.0 (reached c.args.unread h refl).used found.0)

pub returns-in_default-clause-given : goal.returns-in_default-clause-given
returns-in_default-clause-given g c = λ start limit rows h.
    let found = rw c.in_default.is at c.in_ok-count.ensures in
    end_missing (reached_more (reached c.args.unread h refl) found.0) found.1 found.2

pub returns-in_err-is_last-clause-given : goal.returns-in_err-is_last-clause-given
returns-in_err-is_last-clause-given g c = λ start limit rows h.
    let found = rw c.in-Some.is at c.in_ok-count.ensures in
    let p = err_from_is_err_and c.from_residual-in_err-is_last.result c.from_residual-in_err-is_last.ensures.1 in
    rw (p.1, p.2) (row_taking_refused (tally_of c.args.self.now rows) (g.S.Source.seen c.is_last.new.reader)
    c.in_err-is_last.field-0.0 (reached_more (reached c.args.unread h refl) found.0).used
    c.in_err-is_last.ensures.fault)

pub returns-then-not-branch-clause-given : goal.returns-then-not-branch-clause-given
returns-then-not-branch-clause-given g c = λ start limit rows h.
    let found = rw c.in-Some.is at c.in_ok-count.ensures in
    let line = in_front found.2 (ap (take c.in-Some.count) c.as_slice.ensures) in
    let all = c.in_ok-is_last.ensures.last in
    let kept = subst (λ (s : TableStand). IsKeptOf rows s.read) (sym c.self.view_is) h.kept in
    end_refused c.starts_with.result (reached_more (reached c.args.unread h refl) found.0) all.1 line
    (c.starts_with.ensures.value, c.if-starts_with.true)
    (not_both c.in_ok-is_last.field-0 c.is_end-is_end.result c.then-not-branch.either
    (λ e. c.is_end-is_end.ensures.1 (e ∙ sym (end_is kept))) all.2.1)

pub returns-then-starts_with-clause-given : goal.returns-then-starts_with-clause-given
returns-then-starts_with-clause-given g c = λ start limit rows h.
    let found = rw c.in-Some.is at c.in_ok-count.ensures in
    let line = in_front found.2 (ap (take c.in-Some.count) c.as_slice.ensures) in
    let all = c.in_ok-is_last.ensures.last in
    let kept = subst (λ (s : TableStand). IsKeptOf rows s.read) (sym c.self.view_is) h.kept in
    table_given (reached_more (reached c.args.unread h refl) found.0) all.1 line
    (c.is_end-is_end.ensures.0 c.if-not-is_end.false ∙ end_is kept) (all.2.0 c.if-not-branch.false)

pub returns-in_err-skip_rest-clause-given : goal.returns-in_err-skip_rest-clause-given
returns-in_err-skip_rest-clause-given g c = λ start limit rows h.
    let found = rw c.in-Some.is at c.in_ok-count.ensures in
    let p = err_from_is_err_and c.from_residual-in_err-skip_rest.result c.from_residual-in_err-skip_rest.ensures.1 in
    rw (p.1, p.2) (row_taking_refused (tally_of c.args.self.now rows) (g.S.Source.seen c.skip_rest.new.source)
    c.in_err-skip_rest.field-0.0 (reached_more (reached c.args.unread h refl) found.0).used
    c.in_err-skip_rest.ensures)

pub returns-in_default-next_row-clause-given : goal.returns-in_default-next_row-clause-given
returns-in_default-next_row-clause-given g c = λ start limit rows h.
    let found = rw c.in-Some.is at c.in_ok-count.ensures in
    let line = in_front found.2 (ap (take c.in-Some.count) c.as_slice.ensures) in
    row_refused c.starts_with.result c.next_line_number.result (reached_more (reached c.args.unread h refl) found.0)
    c.in_ok-skip_rest.ensures line (c.starts_with.ensures.value, c.if-starts_with.false)
    (no_row_kept c.self.view_is h.kept c.in_default-next_row.ensures.none)
    (line_number c.next_line_number.result c.self.view_is h.kept c.next_line_number.ensures)

pub returns-in_err-is_last-clause-memory : goal.returns-in_err-is_last-clause-memory
returns-in_err-is_last-clause-memory g c = λ is.
    let found = rw c.in-Some.is at c.in_ok-count.ensures in
    let unread = c.first_line.new.intake in
    let line = in_front {unread = unread} found.2 (ap (take c.in-Some.count) c.as_slice.ensures) in
    let read = c.args.self.now.read in
    no_row_before read c.args.unread unread found.3
    (no_row_in_line read line (no_row_at_end read _ c.starts_with.result c.starts_with.ensures.value c.if-starts_with.true))

pub returns-in_err-skip_rest-clause-memory : goal.returns-in_err-skip_rest-clause-memory
returns-in_err-skip_rest-clause-memory g c = λ is.
    let found = rw c.in-Some.is at c.in_ok-count.ensures in
    let unread = c.first_line.new.intake in
    let line = in_front {unread = unread} found.2 (ap (take c.in-Some.count) c.as_slice.ensures) in
    let read = c.args.self.now.read in
    no_row_before read c.args.unread unread found.3
    (no_row_in_line read line (no_row_now c.self.view_is c.in_default-next_row.ensures.none))

pub returns-clause-given : goal.returns-clause-given
returns-clause-given g c = λ start limit rows h.
    let found = rw c.in-Some.is at c.in_ok-count.ensures in
    let next = c.in-Some-next_row in
    rw (c.use_up.ensures, c.push.ensures)
    (line_given next.size next.row c.self.view_is c.requires.unfailed h
    (record { filled = found.0; inside = found.1 }) (ap (take c.in-Some.count) c.as_slice.ensures)
    (record { within = next.ensures.within; said = next.ensures.some }) next.ensures.follows)

pub returns-clause-stays : goal.returns-clause-stays
returns-clause-stays g c =
    let found = rw c.in-Some.is at c.in_ok-count.ensures in
    rw (c.use_up.ensures, c.push.ensures) (
      record {
        k = ap (λ (s : TableStand). s.read.k) c.self.view_is;
        both = ap (λ (s : TableStand). s.read.both) c.self.view_is;
        origin = ap (λ (s : TableStand). s.origin) c.self.view_is;
      },
      ap (λ (s : TableStand). s.failed) c.self.view_is,
      ends_used c.in-Some-next_row.size c.first_line.new.intake.bytes (ends_found _ _ found.3 c.requires.few),
    )

pub invariant_of-self : goal.invariant_of-self
invariant_of-self g c =
    let stays = returns-clause-stays g c in
    (stays.2, fault_of_none _ _ (stays.1 ∙ c.requires.unfailed))
