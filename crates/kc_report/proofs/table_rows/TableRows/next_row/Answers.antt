use Rattle.std.proofs.Common.{sym, ◌∙◌}
use Rattle.kc_report.proofs.FieldLemmas.{never}
use Rattle.kc_report.proofs.NextRowLemmas.{says, no_other_row, no_row}
use Rattle.kc_report.proofs.TableLines.{Fits}
use Rattle.kc_report.proofs.table_rows.TableRows.next_row.Goals as goal

pub returns-in_default-clause-none : goal.returns-in_default-clause-none
returns-in_default-clause-none c = no_row _ c.args.self.now c.args.bytes.now c.self.view_is c.in_default.ensures.none

pub returns-then-not-may_follow-clause-none : goal.returns-then-not-may_follow-clause-none
returns-then-not-may_follow-clause-none c =
    let fits : Fits c.self.inside.k c.in-Some.row = record {
      word = c.in-Some.ensures.below;
      count = c.in-Some.ensures.small;
    } in
    no_other_row _ c.args.self.now c.self.view_is
    (says c.self.inside.k c.in-Some.row c.in-Some.size fits c.in-Some.ensures.some)
    (λ follows. never (sym c.if-not-may_follow.true ∙ c.may_follow.ensures.1 follows))
