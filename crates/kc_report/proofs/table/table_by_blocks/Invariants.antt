use Rattle.std.proofs.Common.{◌≡◌, ◌++◌, List}
use Rattle.kc_tally.specs.declared.row.Row.{Row}
use Rattle.kc_tally.specs.Tally.{AreRows}
use Rattle.kc_report.specs.RowsWritten.{HasPutRows}
use Rattle.kc_report.proofs.table.table_by_blocks.Given as goal

abbrev pub invariant-rows : goal.invariant-rows
invariant-rows g l = record {
  can_next : (goal.iterator-rows g).can_next l.row-iterator;
  is_finite : (goal.iterator-rows g).is_finite l.row-iterator;
  lawful : AreRows l.tally.k l.tally.both l.tally.rows;
  put : (done : List Row) × HasPutRows (g.W.Sink.seen l.fn.writer) (g.W.Sink.seen l.writer)
      (record { k = l.tally.k; both = l.tally.both; origin = l.fn.origin }) done l.writing
      × (l.tally.rows ≡ done ++ l.row-iterator);
}
