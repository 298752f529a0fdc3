-- The numbers that a selection counts.
-- Source: this project's own.
use Rattle.std.specs.Prelude.{◌+◌, List, length, count_by, sum_by}
use Rattle.kc_fastx.specs.Reads.{Read}
use Rattle.kc_tally.specs.Tally.{TallySeen}
use Rattle.kc_select.specs.declared.selection_counts.SelectionCounts.{SelectionCounts}
use Rattle.kc_select.specs.Solid.{SelectionRule, words_for, solid_in, is_selected}

-- how many reads there are, how many of them are selected, how many words the reads have, and how many of these are
-- solid
abbrev pub counts_of : TallySeen → SelectionRule → List Read → SelectionCounts
counts_of tally rule reads = record {
  reads = length reads;
  kept = count_by (λ read. is_selected tally rule read) reads;
  words = sum_by (λ read. length (words_for tally rule read)) reads;
  solid = sum_by (λ read. solid_in tally rule read) reads;
}

-- before anything is counted
abbrev pub no_counts : SelectionCounts
no_counts = record { reads = 0; kept = 0; words = 0; solid = 0 }

-- the sums of the counts of some reads and of others
abbrev pub both_counts : SelectionCounts → SelectionCounts → SelectionCounts
both_counts one other = record {
  reads = one.reads + other.reads;
  kept = one.kept + other.kept;
  words = one.words + other.words;
  solid = one.solid + other.solid;
}
