use Rattle.std.proofs.Common.{length, ◌≤◌, All}
use Rattle.kc_report.proofs.CountLemmas.{AreCounted}
use Rattle.kc_report.proofs.histogram_text.count_rows.Given as goal

abbrev pub invariant-loop-row : goal.invariant-loop-row
invariant-loop-row l = record {
  can_next : goal.iterator-loop-row.can_next l.row-iterator;
  is_finite : goal.iterator-loop-row.is_finite l.row-iterator;
  counted : AreCounted (length l.fn.words) l.tally.rows l.row-iterator l.words;
  present : All (λ row. 1 ≤ row.count) l.row-iterator;
}
