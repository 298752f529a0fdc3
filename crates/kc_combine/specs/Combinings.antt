-- How a command combines tables.
-- Source: our formats page ("Merging" and the commands over several tables).
use Rattle.std.specs.Prelude.{ℕ, List}
use Rattle.kc_combine.specs.Combined.{difference, difference_of_counts, intersection, sum_of, within}
use Rattle.kc_combine.specs.Combined.{MakesNothingOfNone}
use Rattle.kc_combine.specs.CombiningLaws.{none_in_common, none_left, none_remains, none_within, sum_of_none}
use Rattle.kc_combine.specs.Taking.{taken_by}
use Rattle.kc_combine.specs.declared.combining.Combining.{Combining}
use Rattle.kc_combine.specs.declared.combining.Combining.TheVariants.{Merge, Intersect, Subtract, SubtractCounts}
use Rattle.kc_combine.specs.declared.combining.Combining.TheVariants.{Filter}

-- the count that a word gets from its counts in the tables
abbrev pub rule_of : Combining → List ℕ → ℕ
rule_of Merge = sum_of
rule_of (Intersect rule) = intersection (taken_by rule.take)
rule_of Subtract = difference
rule_of SubtractCounts = difference_of_counts
rule_of (Filter rule) = within rule.least rule.most

-- a word that no table has is left out
pub nothing_of : (combining : Combining) → MakesNothingOfNone (rule_of combining)
nothing_of Merge = sum_of_none
nothing_of (Intersect rule) = none_in_common (taken_by rule.take)
nothing_of Subtract = none_left
nothing_of SubtractCounts = none_remains
nothing_of (Filter rule) = none_within rule.least rule.most
