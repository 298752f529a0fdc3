use Rattle.std.proofs.Common.{◌≡◌, true}
use Rattle.kc_tally.specs.Tally.{count_of}
use Rattle.kc_select.specs.LastRows.{AreLast}
use Rattle.kc_select.proofs.row_index.RowIndex.count_near.Given as goal

abbrev pub invariant-loop : goal.invariant-loop
invariant-loop l = record {
  last : AreLast l.fn.self.rows l.rows;
  behind : l.is_behind ≡ true → count_of l.rows l.fn.word ≡ count_of l.fn.self.rows l.fn.word;
}
