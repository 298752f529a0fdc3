use Rattle.std.proofs.Common.{◌≡◌, ◌≤◌, ℕ, List, length, None}
use Rattle.kc_tally.specs.declared.row.Row.{Row}
use Rattle.kc_combine.specs.Aheads.{heads_of, least_from, whences_of}
use Rattle.kc_combine.specs.Walks.{IsWalking, left_from}
use Rattle.kc_combine.proofs.combined_rows.next_row.Given as goal

abbrev pub invariant-words : goal.invariant-words
invariant-words g l =
    let Gave = g.R.GivesRows.gave in
    let Whole = g.R.GivesRows.gave_all in
    let rule = g.C.Combines.rule l.combines in
    record {
      walking : (bound : ℕ) (tables : List (List Row)) (rows : List Row) → IsWalking Gave Whole rule bound tables l.fn.aheads rows
          → (later : ℕ) × (after : List (List Row)) × IsWalking Gave Whole rule later after l.aheads rows;
      same : whences_of g.R.GivesRows.whence l.aheads ≡ whences_of g.R.GivesRows.whence l.fn.aheads;
      fewer : left_from (least_from None (heads_of l.aheads)) ≤ left_from (least_from None (heads_of l.fn.aheads));
      long : length l.aheads ≡ length l.fn.aheads;
      kept : length l.counts ≡ length l.fn.counts;
      alike : length l.counts ≡ length l.aheads;
    }

abbrev pub decreases-words : goal.decreases-words
decreases-words g l = left_from (least_from None (heads_of l.aheads))
