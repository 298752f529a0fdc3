-- A byte string read as a table text: the tally and the origin with this text, or its first fault. Source, our formats
-- page ("The table text").
use Rattle.std.specs.Prelude.{◌≡◌, ℕ, ◌+◌, ◌≤◌, Bool, false, List}
use Rattle.std.specs.Prelude.{[], ◌∷◌, ◌++◌, length, codes, Result, MatchResult, Option, ◌⊎◌}
use Rattle.kc_gzip.specs.declared.unpacked_intakes.TakeFault.TheVariants as taking
use Rattle.kc_io.specs.Sources.{Seen}
use Rattle.kc_gzip.specs.Intakes.{TakesAll, TakingFails}
use Rattle.kc_tally.specs.declared.row.Row.{Row}
use Rattle.kc_tally.specs.Tally.{TallySeen, AreRows}
use Rattle.kc_report.specs.declared.report_faults.ReportFault.{ReportFault}
use Rattle.kc_report.specs.declared.report_faults.ReportFault.TheVariants.{BadHeader, BadRow, BadEnd}
use Rattle.kc_report.specs.declared.report_faults.ReportFault.TheVariants.{TableTooLong, TableRead, Memory}
use Rattle.kc_report.specs.declared.report_faults.ReportFault.TheVariants.{BrokenGzip, ShortGzip}
use Rattle.kc_report.specs.Dumping.{row_in_columns}
use Rattle.kc_report.specs.declared.origin.Origin.{Origin}
use Rattle.kc_report.specs.Table.{header_line, MaySay, ended, front_text, end_text, table_text}

-- the bytes begin with these
abbrev pub BeginsWith : List ℕ → List ℕ → Type 0
BeginsWith bytes front = (rest : List ℕ) × (bytes ≡ front ++ rest)

-- the bytes have a line that ends with a line feed
abbrev pub HasLine : List ℕ → Type 0
HasLine bytes = (line : List ℕ) × BeginsWith bytes (ended line)

-- a tally and an origin that a table text can have: its words have 1 to 31 bases, and its rows are such as a tally may
-- have
pub record IsTable (tally : TallySeen) (origin : Option Origin) : Type 0 where
  pub some : 1 ≤ tally.k
  pub most : tally.k ≤ 31
  pub rows : AreRows tally.k tally.both tally.rows
  pub said : MaySay origin

-- the bytes begin with the header and the rows of such a table, and the rest follows
pub record ReadsTo (bytes : List ℕ) (front : TallySeen) (origin : Option Origin) (rest : List ℕ) : Type 0 where
  pub lawful : IsTable front origin
  pub split : bytes ≡ front_text front.k front.both origin front.rows ++ rest

-- the row may come next in the table
abbrev pub MayFollow : TallySeen → Row → Type 0
MayFollow front row = AreRows front.k front.both (front.rows ++ row ∷ [])

-- the first line isn't a header, or there is none
abbrev pub HasBadHeader : List ℕ → Type 0
HasBadHeader bytes = (k : ℕ) (both : Bool) (origin : Option Origin) → 1 ≤ k → k ≤ 31 → MaySay origin
    → ¬ BeginsWith bytes (ended (header_line k both origin))

-- after a header and rows comes a line that doesn't begin with `END` and isn't a row that may come next; its number is
-- `number`
pub record HasBadRow (bytes : List ℕ) (number : ℕ) : Type 0 where
  pub front : TallySeen
  pub origin : Option Origin
  pub rest : List ℕ
  pub reads : ReadsTo bytes front origin rest
  pub line : HasLine rest
  pub no_end : ¬ BeginsWith rest (codes "END")
  pub no_row : (row : Row) → MayFollow front row → ¬ BeginsWith rest (row_in_columns front.k false row)
  pub counted : number ≡ length front.rows + 2

-- after a header and rows there is no line, or one that begins with `END`, and what is left isn't the end of the table
pub record HasBadEnd (bytes : List ℕ) : Type 0 where
  pub front : TallySeen
  pub origin : Option Origin
  pub rest : List ℕ
  pub reads : ReadsTo bytes front origin rest
  pub ends : (¬ HasLine rest) ⊎ BeginsWith rest (codes "END")
  pub wrong : ¬ (rest ≡ end_text front.rows)

-- the bytes are the text of this tally with this origin
pub record HasTable (bytes : List ℕ) (table : TallySeen × Option Origin) : Type 0 where
  pub lawful : IsTable table.0 table.1
  pub whole : bytes ≡ table_text table.0 table.1

-- the bytes are no table text: this is their first fault
abbrev pub HasTableFault : List ℕ → ReportFault → Type 0
HasTableFault bytes BadHeader = HasBadHeader bytes
HasTableFault bytes (BadRow number) = HasBadRow bytes number
HasTableFault bytes BadEnd = HasBadEnd bytes
HasTableFault bytes _ = ⊥

-- the tally of the bytes with its origin, or their first fault
abbrev pub IsTableOf : List ℕ → Result (TallySeen × Option Origin) ReportFault → Type 0
IsTableOf bytes answer = MatchResult answer (HasTable bytes) (HasTableFault bytes)

-- all bytes of the source were taken and decompressed, and they are the text of this tally with this origin
pub record GivesTable (old new : Seen) (limit : ℕ) (table : TallySeen × Option Origin) : Type 0 where
  pub bytes : List ℕ
  pub taken : TakesAll old new limit bytes
  pub has_table : HasTable bytes table

-- why `read_table` gave no tally: taking the bytes failed, or all bytes were taken and have this fault. Memory was
-- refused while bytes were taken, or after that
abbrev pub RefusesTable : Seen → Seen → ℕ → ReportFault → Type 0
RefusesTable old new limit TableTooLong = TakingFails old new limit taking.TooLong
RefusesTable old new limit TableRead = TakingFails old new limit taking.Read
RefusesTable old new limit BrokenGzip = TakingFails old new limit taking.Broken
RefusesTable old new limit ShortGzip = TakingFails old new limit taking.Short
RefusesTable old new limit Memory =
    TakingFails old new limit taking.Memory ⊎ ((bytes : List ℕ) × TakesAll old new limit bytes)
RefusesTable old new limit fault = (bytes : List ℕ) × TakesAll old new limit bytes × HasTableFault bytes fault
