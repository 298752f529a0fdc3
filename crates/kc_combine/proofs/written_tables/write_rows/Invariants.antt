use Rattle.std.proofs.Common.{◌≡◌, ℕ, List, length, None}
use Rattle.kc_tally.specs.declared.row.Row.{Row}
use Rattle.kc_report.specs.RowsWritten.{HasPutRows}
use Rattle.kc_combine.specs.Aheads.{HaveLength, heads_of, least_from, whences_of}
use Rattle.kc_combine.specs.Walks.{IsWalking, left_from}
use Rattle.kc_combine.specs.WrittenTables.{StandAtStart}
use Rattle.kc_combine.proofs.written_tables.write_rows.Given as goal

abbrev pub invariant-rows : goal.invariant-rows
invariant-rows g l =
    let Gave = g.R.GivesRows.gave in
    let Whole = g.R.GivesRows.gave_all in
    record {
      alike : length l.counts ≡ length l.aheads;
      same : whences_of g.R.GivesRows.whence l.aheads ≡ whences_of g.R.GivesRows.whence l.fn.aheads;
      words : HaveLength g.R.GivesRows.whence l.header.k l.aheads;
      put : (rows : List Row) × HasPutRows (g.W.Sink.seen l.fn.writer) (g.W.Sink.seen l.writer) l.header rows l.writing
          × (StandAtStart Gave Whole l.fn.aheads → (bound : ℕ) × (tables : List (List Row))
          × IsWalking Gave Whole (g.C.Combines.rule l.combines) bound tables l.aheads rows);
    }

abbrev pub decreases-rows : goal.decreases-rows
decreases-rows g l = left_from (least_from None (heads_of l.aheads))
