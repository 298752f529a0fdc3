use Rattle.std.proofs.Common.{◌≡◌, List, length}
use Rattle.kc_tally.specs.declared.row.Row.{Row}
use Rattle.kc_combine.specs.Aheads.{BeginAt, BeginTo, HadCountsTo, HaveTaken, HaveTakenTo, heads_of, whences_of}
use Rattle.kc_combine.proofs.aheads.take_word.Given as goal

abbrev pub invariant-tables : goal.invariant-tables
invariant-tables g l =
    let Gave = g.R.GivesRows.gave in
    let Whole = g.R.GivesRows.gave_all in
    record {
      taken : (befores : List (List Row)) → HaveTaken Gave Whole l.fn.aheads befores
          → (afters : List (List Row)) × HaveTakenTo Gave Whole l.i l.aheads befores afters l.word l.counts;
      counted : HadCountsTo l.i l.word (heads_of l.fn.aheads) (heads_of l.aheads) l.counts;
      rise : BeginAt l.word (heads_of l.fn.aheads) → BeginTo l.i l.word (heads_of l.aheads);
      same : whences_of g.R.GivesRows.whence l.aheads ≡ whences_of g.R.GivesRows.whence l.fn.aheads;
      long : length l.aheads ≡ length l.fn.aheads;
      alike : length l.counts ≡ length l.aheads;
    }
