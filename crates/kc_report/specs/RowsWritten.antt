-- Writing a table text row by row: the rows that were put so far, and what waits for the writer. Source: our formats
-- page ("The table text").
use Rattle.std.specs.Prelude.{◌≡◌, ℕ, List, length}
use Rattle.kc_io.specs.Sinks.{Written, Drains}
use Rattle.kc_tally.specs.declared.row.Row.{Row}
use Rattle.kc_tally.specs.Tally.{total_of}
use Rattle.kc_report.specs.declared.header.Header.{Header}
use Rattle.kc_report.specs.Table.{front_text, table_text}

-- the state of writing a table
pub record WritingStand : Type 0 where
  -- the bytes that the writer was not given yet
  pub waiting : List ℕ
  -- the length of the words
  pub k : ℕ
  -- how many rows there were, and the sum of their counts
  pub distinct : ℕ
  pub total : ℕ

-- the header and these rows
abbrev pub front_of : Header → List Row → List ℕ
front_of header rows = front_text header.k header.both header.origin rows

-- the table text of these rows under this header
abbrev pub text_of : Header → List Row → List ℕ
text_of header rows = table_text (record { k = header.k; both = header.both; rows = rows }) header.origin

-- These rows of a table with this header were put: since the start the writer took a prefix of their text, and the rest
-- waits.
pub record HasPutRows (start now : Written) (header : Header) (rows : List Row) (stand : WritingStand) : Type 0 where
  pub drained : Drains start now (front_of header rows) stand.waiting
  pub k : stand.k ≡ header.k
  pub distinct : stand.distinct ≡ length rows
  pub total : stand.total ≡ total_of rows
