use Rattle.std.proofs.Common.{◌≡◌, ℕ, List, [], length, None}
use Rattle.kc_tally.specs.declared.row.Row.{Row}
use Rattle.kc_combine.specs.Aheads.{heads_of, least_from, whences_of}
use Rattle.kc_combine.specs.Walks.{IsVisiting, left_from}
use Rattle.kc_combine.specs.WrittenTables.{StandAtStart}
use Rattle.kc_combine.proofs.visited_words.visit_words.Given as goal

abbrev pub invariant-words : goal.invariant-words
invariant-words g l =
    let Gave = g.R.GivesRows.gave in
    let Whole = g.R.GivesRows.gave_all in
    let visited = g.V.VisitsWords.visited in
    record {
      visiting : StandAtStart Gave Whole l.fn.aheads → (bound : ℕ) × (tables : List (List Row))
          × IsVisiting Gave Whole (λ words. visited l.fn.visitor [] → visited l.visitor words) bound tables l.aheads;
      setting : g.V.VisitsWords.setting l.visitor ≡ g.V.VisitsWords.setting l.fn.visitor;
      same : whences_of g.R.GivesRows.whence l.aheads ≡ whences_of g.R.GivesRows.whence l.fn.aheads;
      long : length l.aheads ≡ length l.fn.aheads;
      kept : length l.counts ≡ length l.fn.counts;
      alike : length l.counts ≡ length l.aheads;
    }

abbrev pub decreases-words : goal.decreases-words
decreases-words g l = left_from (least_from None (heads_of l.aheads))
