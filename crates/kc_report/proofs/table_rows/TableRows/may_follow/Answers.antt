use Rattle.kc_report.proofs.NextRowLemmas.{no_rise, may_come}
use Rattle.kc_report.proofs.table_rows.TableRows.may_follow.Goals as goal

pub returns-then-not-rises_to : goal.returns-then-not-rises_to
returns-then-not-rises_to c = no_rise c.args.self.now c.args.row c.rises_to.result c.rises_to.ensures.1
    c.if-not-rises_to.true

pub returns : goal.returns
returns c =
    may_come c.self.view_is
    (record { small = c.self.invariant.1; to = c.is_form.ensures.0; from = c.is_form.ensures.1 })
    c.requires.below (c.rises_to.ensures.0 c.if-not-rises_to.false) c.if-row-lt1.false c.if-row-self.false
