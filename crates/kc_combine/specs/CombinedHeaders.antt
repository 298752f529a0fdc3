-- The header of a combination of tables.
-- Source: our formats page ("Merging" and the commands over several tables).
use Rattle.std.specs.Prelude.{◌≡◌, ◌^◌, ◌≤◌, All, List, [], map, Option, None, IfSome, Result, Ok, Err}
use Rattle.kc_tally.specs.Tally.{TallySeen}
use Rattle.kc_report.specs.declared.header.Header.{Header}
use Rattle.kc_report.specs.declared.origin.Origin.{Origin}
use Rattle.kc_report.specs.declared.report_faults.ReportFault.{ReportFault}
use Rattle.kc_report.specs.declared.report_faults.ReportFault.TheVariants.{Unlike, TooLarge}
use Rattle.kc_report.specs.Merging.{AreAlike}
use Rattle.kc_report.specs.Table.{MaySay}
use Rattle.kc_combine.specs.MergedTables.{joined_origins}
use Rattle.kc_combine.specs.declared.combining.Combining.{Combining}
use Rattle.kc_combine.specs.declared.combining.Combining.TheVariants.{Merge}

-- a table with this header and no rows
abbrev pub under : Header → TallySeen
under header = record { k = header.k; both = header.both; rows = [] }

-- the k-mers of both tables have one length and count the same strands
pub record HaveSameWords (header other : Header) : Type 0 where
  pub k : header.k ≡ other.k
  pub both : header.both ≡ other.both

-- tables with these headers can be combined; to be merged their origins have to match as well
abbrev pub Match : Combining → Header → Header → Type 0
Match Merge header other = AreAlike (under header) (under other) header.origin other.origin
Match combining header other = HaveSameWords header other

-- any two of them can
abbrev pub AllMatch : Combining → List Header → Type 0
AllMatch combining headers = All (λ header. All (λ other. Match combining header other) headers) headers

-- the origin of the combination: that of all together if they are merged, else none
abbrev pub origin_for : Combining → List Header → Option Origin
origin_for Merge headers = joined_origins (map (λ header. header.origin) headers)
origin_for combining headers = None

-- the reads fit into a header
abbrev pub HasFewReads : Option Origin → Type 0
HasFewReads origin = IfSome origin (λ origin. origin.reads ≤ 2 ^ 62)

-- that origin; or its reads are too many
abbrev pub GivesOrigin : Combining → List Header → Result (Option Origin) ReportFault → Type 0
GivesOrigin combining headers (Ok origin) = (origin ≡ origin_for combining headers) × MaySay origin
GivesOrigin combining headers (Err TooLarge) = ¬ HasFewReads (origin_for combining headers)
GivesOrigin combining headers (Err fault) = ⊥

-- The header of the combination of tables with these headers; or they can't be combined; or else the merged tables have
-- too many reads together.
abbrev pub CombinesHeaders : Combining → List Header → Result Header ReportFault → Type 0
CombinesHeaders combining headers (Ok header) = AllMatch combining headers × All (HaveSameWords header) headers
    × (header.origin ≡ origin_for combining headers) × MaySay header.origin
CombinesHeaders combining headers (Err Unlike) = ¬ AllMatch combining headers
CombinesHeaders combining headers (Err TooLarge) =
    AllMatch combining headers × (¬ HasFewReads (origin_for combining headers))
CombinesHeaders combining headers (Err fault) = ⊥
