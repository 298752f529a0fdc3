use Rattle.kc_select.proofs.LastRowsLemmas.{last-trans}
use Rattle.kc_select.proofs.row_index.RowIndex.rows_from.Goals as goal

pub returns-clause-last : goal.returns-clause-last
returns-clause-last c =
    last-trans c.args.self.now.rows c.walk_to.result c.rows_behind.result c.walk_to.ensures.last c.rows_behind.ensures
