-- Pairs of reads: which titles belong to mates, which pairs are kept, and their text.
-- Source: the names that sequencers and archives write: `NAME/1` and `NAME/2`, or `NAME 1:..` and `NAME 2:..`
-- (Illumina), `NAME.1` and `NAME.2` (the Sequence Read Archive, where both files have `NAME.N`, with the number of the
-- record). The pairs that are kept are this project's own.
use Rattle.std.specs.Prelude.{◌≡◌, ℕ, Bool, true, ◌+◌, ◌*◌, ◌-◌, ◌&&◌, ◌||◌, if◌then◌else◌}
use Rattle.std.specs.Prelude.{List, [], ◌∷◌, ◌++◌, length, take, drop, map, sum_by}
use Rattle.std.specs.List.{All, filter, flat_map}
use Rattle.std.specs.Str.{bytes_eq}
use Rattle.kc_fastx.specs.Lines.{Line}
use Rattle.kc_fastx.specs.Reads.{Read}
use Rattle.kc_fastx.specs.Titles.{Record, record_of}
use Rattle.kc_select.specs.declared.pair_rule.PairRule.{PairRule}
use Rattle.kc_select.specs.declared.pair_rule.PairRule.TheVariants as asks
use Rattle.kc_select.specs.declared.selection_counts.SelectionCounts.{SelectionCounts}
use Rattle.kc_select.specs.declared.sides.Sides.{Sides}
use Rattle.kc_select.specs.Profiles.{name_of}
use Rattle.kc_select.specs.Solid.{SelectorSeen, keeps, is_solid, words_for, solid_in}
use Rattle.kc_select.specs.Texts.{text_of_kept}

-- ---- the titles of mates

-- the marks before the number of a mate, and the two numbers
abbrev pub slash : ℕ
slash = 47

abbrev pub dot : ℕ
dot = 46

abbrev pub one : ℕ
one = 49

abbrev pub two : ℕ
two = 50

-- whether the last two bytes of the name are this mark and this number
abbrev pub has_end : ℕ → ℕ → List ℕ → Bool
has_end mark number name = bytes_eq (drop (length name - 2) name) (mark ∷ number ∷ [])

-- the name of the mate with this number, without `/` or `.` and the number if it ends with them
abbrev pub bare_name : ℕ → List ℕ → List ℕ
bare_name number name =
    if has_end slash number name || has_end dot number name then take (length name - 2) name else name

-- whether the name ends in `.1` or `.2`, which may be the number of the record
abbrev pub is_numbered : List ℕ → Bool
is_numbered name = has_end dot one name || has_end dot two name

-- Two names are those of mates if they are equal without the number of each mate, or equal as they are, with the number
-- of a record.
abbrev pub are_names_of_mates : List ℕ → List ℕ → Bool
are_names_of_mates first second =
    bytes_eq (bare_name one first) (bare_name two second) || (bytes_eq first second && is_numbered first)

-- whether the titles of two records are those of mates
abbrev pub are_mates : List ℕ → List ℕ → Bool
are_mates first second = are_names_of_mates (name_of first) (name_of second)

-- ---- pairs

-- two records, the first of one source and the second of another
abbrev pub Pair : Type 0
Pair = Sides Record

-- the records with these titles and these reads
abbrev pub pair_of : Sides Line → Sides Read → Pair
pair_of titles reads =
    record { first = record_of titles.first reads.first; second = record_of titles.second reads.second }

-- the same function for each side
abbrev pub each : {A B : Type 0} → (A → B) → Sides A → Sides B
each f sides = record { first = f sides.first; second = f sides.second }

-- the first records of pairs, and the second ones
abbrev pub firsts : List Pair → List Record
firsts pairs = map (λ p. p.first) pairs

abbrev pub seconds : List Pair → List Record
seconds pairs = map (λ p. p.second) pairs

-- the titles of each pair are those of mates
abbrev pub AreMates : List Pair → Type 0
AreMates pairs = All (λ p. are_mates p.first.title p.second.title ≡ true) pairs

-- ---- the pairs that are kept

-- a table, the rule of a selection of reads by it, and how many reads of a pair have to be solid
pub record PairsSelector : Type 0 where
  pub by : SelectorSeen
  pub asked : PairRule

-- whether both reads of a pair are solid, or at least one of them, as the rule asks
abbrev pub is_solid_pair : PairRule → Bool → Bool → Bool
is_solid_pair asks.All first second = first && second
is_solid_pair asks.Any first second = first || second

-- whether the pair is kept: it is solid, or is not if the rule is inverted
abbrev pub keeps_pair : PairsSelector → Read → Read → Bool
keeps_pair selector first second =
    let by = selector.by in
    keeps by.rule (is_solid_pair selector.asked (is_solid by.tally by.rule first) (is_solid by.tally by.rule second))

-- the pairs that are kept, in order
abbrev pub kept_pairs : PairsSelector → List Pair → List Pair
kept_pairs selector these = filter (λ p. keeps_pair selector p.first.read p.second.read) these

-- ---- what is written of them

-- the text of a record in a pair that is kept
abbrev pub text_by : PairsSelector → Record → List ℕ
text_by selector this = text_of_kept selector.by.tally selector.by.rule this

-- the text of both records of a pair, the first one first
abbrev pub text_of_both : PairsSelector → Pair → List ℕ
text_of_both selector this = text_by selector this.first ++ text_by selector this.second

-- the texts of the first records of the kept pairs
abbrev pub first_text : PairsSelector → List Pair → List ℕ
first_text selector these = flat_map (λ p. text_by selector p.first) (kept_pairs selector these)

-- the texts of their second records
abbrev pub second_text : PairsSelector → List Pair → List ℕ
second_text selector these = flat_map (λ p. text_by selector p.second) (kept_pairs selector these)

-- the texts of both
abbrev pub interleaved_text : PairsSelector → List Pair → List ℕ
interleaved_text selector these = flat_map (λ p. text_of_both selector p) (kept_pairs selector these)

-- ---- what is counted of them

-- the sum of a number over both reads of all pairs
abbrev pub sum_of_both : (Read → ℕ) → List Pair → ℕ
sum_of_both count these = sum_by (λ p. count p.first.read + count p.second.read) these

-- how many reads the pairs have, how many of them are written, how many words the reads have, and how many of these are
-- solid
abbrev pub counts_of_pairs : PairsSelector → List Pair → SelectionCounts
counts_of_pairs selector these = let by = selector.by in record {
  reads = 2 * length these;
  kept = 2 * length (kept_pairs selector these);
  words = sum_of_both (λ read. length (words_for by.tally by.rule read)) these;
  solid = sum_of_both (λ read. solid_in by.tally by.rule read) these;
}

-- the numbers of one read, which is kept or not
abbrev pub counts_of_read : SelectorSeen → Bool → Read → SelectionCounts
counts_of_read by kept read = record {
  reads = 1;
  kept = if kept then 1 else 0;
  words = length (words_for by.tally by.rule read);
  solid = solid_in by.tally by.rule read;
}
