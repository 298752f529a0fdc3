-- Which reads of a file are selected, by their words and a table of counts.
-- Source: this project's own; the words of a read and the forms under which they count are those of the counter.
use Rattle.std.specs.Prelude.{ℕ, ◌*◌, ◌^◌, ◌-◌, Bool, true, false, not, nat_le, ◌&&◌, List, length, count_by}
use Rattle.std.specs.Prelude.{if◌then◌else◌}
use Rattle.kc_fastx.specs.Reads.{Read}
use Rattle.kc_kmer.specs.Rule.{CountingRule, unlisted_rule}
use Rattle.kc_kmer.specs.Occurrences.{words_in}
use Rattle.kc_tally.specs.Tally.{TallySeen, count_of}

-- the rule of a selection: the least and the greatest count of a solid word, the percentage of a read's words that have
-- to be solid, the least quality byte of a usable base, whether the reads that are not solid are selected instead, and
-- whether the profiles of the selected reads are written instead of their records
pub record SelectionRule : Type 0 where
  pub least : ℕ
  pub most : ℕ
  pub share : ℕ
  pub floor : ℕ
  pub inverted : Bool
  pub profiled : Bool

-- every read is selected, and its profile is written
abbrev pub profile_rule : ℕ → SelectionRule
profile_rule floor = record {
  least = 0;
  most = 2 ^ 64 - 1;
  share = 0;
  floor = floor;
  inverted = false;
  profiled = true;
}

-- the rule by which the words of a read count: they have the table's length and its forms, and no base of quality below
-- the floor
abbrev pub rule_for : TallySeen → SelectionRule → CountingRule
rule_for tally rule = unlisted_rule tally.k tally.both rule.floor

-- the words of a read, one for each position that has one
abbrev pub words_for : TallySeen → SelectionRule → Read → List ℕ
words_for tally rule read = words_in (rule_for tally rule) read

-- whether a word with this count is solid: the count is within the two bounds of the rule, inclusive
abbrev pub is_solid_count : SelectionRule → ℕ → Bool
is_solid_count rule count = nat_le rule.least count && nat_le count rule.most

-- whether a word is solid: its count in the table is, which is 0 if the table lacks it
abbrev pub is_solid_word : TallySeen → SelectionRule → ℕ → Bool
is_solid_word tally rule word = is_solid_count rule (count_of tally.rows word)

-- how many of the words are solid
abbrev pub solid_count : TallySeen → SelectionRule → List ℕ → ℕ
solid_count tally rule words = count_by (λ word. is_solid_word tally rule word) words

-- how many words of a read are solid
abbrev pub solid_in : TallySeen → SelectionRule → Read → ℕ
solid_in tally rule read = solid_count tally rule (words_for tally rule read)

-- whether `solid` of `words` words are at least the share that the rule asks for
abbrev pub has_share : SelectionRule → ℕ → ℕ → Bool
has_share rule words solid = nat_le (rule.share * words) (100 * solid)

-- whether a read is solid: enough of its words are; a read without words is
abbrev pub is_solid : TallySeen → SelectionRule → Read → Bool
is_solid tally rule read = has_share rule (length (words_for tally rule read)) (solid_in tally rule read)

-- whether a read is kept: if it is solid, or if it is not and the rule is inverted
abbrev pub keeps : SelectionRule → Bool → Bool
keeps rule solid = if rule.inverted then not solid else solid

abbrev pub is_selected : TallySeen → SelectionRule → Read → Bool
is_selected tally rule read = keeps rule (is_solid tally rule read)

-- a table, and the rule of a selection by it
pub record SelectorSeen : Type 0 where
  pub tally : TallySeen
  pub rule : SelectionRule
