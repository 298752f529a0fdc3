-- The sum of two tables, and its table text: source, our formats page ("Merging").
use Rattle.std.specs.Prelude.{⊤, ◌≡◌, ℕ, ◌+◌, ◌^◌, ◌≤◌, false, List, ◌++◌, length}
use Rattle.std.specs.Prelude.{Option, Some, None, IfSome, Result, Ok, Err}
use Rattle.kc_kmer.specs.Rule.{CountingRule}
use Rattle.kc_tally.specs.Tally.{Read, TallySeen, total_of, IsTallyOf}
use Rattle.kc_tally.specs.Sum.{IsSumOf}
use Rattle.kc_report.specs.declared.origin.Origin.{Origin}
use Rattle.kc_report.specs.declared.report_faults.ReportFault.{ReportFault}
use Rattle.kc_report.specs.declared.report_faults.ReportFault.TheVariants.{Unlike, TooLarge, Memory}
use Rattle.kc_report.specs.Table.{table_text}
use Rattle.kc_report.specs.TableReading.{IsTable, IsTableOf}

-- no list was given, if the origin is known
abbrev pub IsUnlisted : Option Origin → Type 0
IsUnlisted origin = IfSome origin (λ origin. origin.listed ≡ false)

-- the floors are equal, if both origins are known
abbrev pub HaveOneFloor : Option Origin → Option Origin → Type 0
HaveOneFloor (Some origin) (Some other) = origin.floor ≡ other.floor
HaveOneFloor (Some origin) None = ⊤
HaveOneFloor None other = ⊤

-- tables of these origins can be merged: neither was given a list, and they have one floor
pub record OriginsMatch (origin another : Option Origin) : Type 0 where
  pub first : IsUnlisted origin
  pub second : IsUnlisted another
  pub floor : HaveOneFloor origin another

-- the tables match: they count words of one length on as many strands, with one floor, and neither was given a list
pub record AreAlike (tally other : TallySeen) (origin another : Option Origin) : Type 0 where
  pub k : tally.k ≡ other.k
  pub both : tally.both ≡ other.both
  pub first : IsUnlisted origin
  pub second : IsUnlisted another
  pub floor : HaveOneFloor origin another

-- the reads of both, if both origins are known, otherwise 0
abbrev pub reads_together : Option Origin → Option Origin → ℕ
reads_together (Some origin) (Some other) = origin.reads + other.reads
reads_together (Some origin) None = 0
reads_together None other = 0

-- the sums of the counts and of the reads are at most 2 ^ 62
pub record AreSmall (tally other : TallySeen) (origin another : Option Origin) : Type 0 where
  pub totals : total_of tally.rows + total_of other.rows ≤ 2 ^ 62
  pub reads : reads_together origin another ≤ 2 ^ 62

-- the origin of the sum; it is known if both are
abbrev pub joined_origin : Option Origin → Option Origin → Option Origin
joined_origin (Some origin) (Some other) =
    Some (record { floor = origin.floor; reads = origin.reads + other.reads; listed = false })
joined_origin (Some origin) None = None
joined_origin None other = None

-- The result of adding two tables: their sum, with the origin of both; an error, if they don't match; otherwise an
-- error, if a sum is too large; otherwise an error, if memory was refused.
abbrev pub Merges : TallySeen → TallySeen → Option Origin → Option Origin
    → Result (TallySeen × Option Origin) ReportFault → Type 0
Merges tally other origin another (Ok table) = AreAlike tally other origin another
    × AreSmall tally other origin another
    × IsSumOf tally other table.0
    × (table.1 ≡ joined_origin origin another)
Merges tally other origin another (Err Unlike) = ¬ AreAlike tally other origin another
Merges tally other origin another (Err TooLarge) =
    AreAlike tally other origin another × (¬ AreSmall tally other origin another)
Merges tally other origin another (Err Memory) =
    AreAlike tally other origin another × AreSmall tally other origin another
Merges tally other origin another (Err fault) = ⊥

-- ---- texts

-- the origin of a count of all words of the reads
abbrev pub counted_from : CountingRule → List Read → Option Origin
counted_from rule reads = Some (record { floor = rule.floor; reads = length reads; listed = false })

-- the tally is that of the reads under the rule, a table text can contain it with its origin, and that text was read as
-- this table
pub record IsCountRead (rule : CountingRule) (reads : List Read) (table : TallySeen × Option Origin) : Type 0 where
  pub tally : TallySeen
  pub counted : IsTallyOf rule reads tally
  pub lawful : IsTable tally (counted_from rule reads)
  pub told : IsTableOf (table_text tally (counted_from rule reads)) (Ok table)

-- table texts of two counts under one rule match
abbrev pub CountsMatch : Type 0
CountsMatch = (rule : CountingRule) (reads more : List Read) (table other : TallySeen × Option Origin)
    → IsCountRead rule reads table → IsCountRead rule more other → AreAlike table.0 other.0 table.1 other.1

-- the table text of their sum is, byte for byte, that of the count of both inputs' reads
abbrev pub MergedText : Type 0
MergedText = (rule : CountingRule) (reads more : List Read) (table other merged : TallySeen × Option Origin)
    (whole : TallySeen) → IsCountRead rule reads table → IsCountRead rule more other
    → Merges table.0 other.0 table.1 other.1 (Ok merged) → IsTallyOf rule (reads ++ more) whole
    → table_text merged.0 merged.1 ≡ table_text whole (counted_from rule (reads ++ more))
