-- The table text of a tally: source, our formats page ("The table text"). It is ASCII, each line ends with a single
-- line feed, and numbers are decimal without leading zeros.
use Rattle.std.specs.Prelude.{ℕ, ◌^◌, ◌≤◌, Bool, List, [], ◌∷◌, ◌++◌, false, length, codes, decimal, flat_map}
use Rattle.std.specs.Prelude.{if◌then◌else◌, Option, Some, None, IfSome}
use Rattle.kc_report.specs.declared.origin.Origin.{Origin}
use Rattle.kc_tally.specs.declared.row.Row.{Row}
use Rattle.kc_tally.specs.Tally.{TallySeen, total_of}
use Rattle.kc_report.specs.Bytes.{line_feed, space}
use Rattle.kc_report.specs.Dumping.{row_in_columns}

-- `s` if words count as they occur, `c` if their canonical forms count
abbrev pub kind : Bool → List ℕ
kind both = if both then codes "c" else codes "s"

-- the start of the header: a table of version 2 has its origin
abbrev pub version : Option Origin → List ℕ
version None = codes "KCT 1 "
version (Some origin) = codes "KCT 2 "

-- `a` if all words were counted, `o` if a list was given
abbrev pub selection : Bool → List ℕ
selection listed = if listed then codes "o" else codes "a"

-- an origin after the other fields, ` W F N`: whether a list was given, the floor and the number of reads
abbrev pub origin_text : Option Origin → List ℕ
origin_text None = []
origin_text (Some origin) =
    space ∷ selection origin.listed ++ space ∷ decimal origin.floor ++ space ∷ decimal origin.reads

-- the header, `KCT 1 K B` or `KCT 2 K B W F N`, where B is `s` or `c`
abbrev pub header_line : ℕ → Bool → Option Origin → List ℕ
header_line k both origin = version origin ++ decimal k ++ space ∷ kind both ++ origin_text origin

-- an origin that a header can have: the floor is a byte of a quality line, 33 to 126
pub record IsOrigin (origin : Origin) : Type 0 where
  pub floor_least : 33 ≤ origin.floor
  pub floor_most : origin.floor ≤ 126
  pub reads : origin.reads ≤ 2 ^ 62

abbrev pub MaySay : Option Origin → Type 0
MaySay origin = IfSome origin IsOrigin

-- the end, `END DISTINCT TOTAL`, of a table with so many rows and this sum of their counts
abbrev pub end_line : ℕ → ℕ → List ℕ
end_line distinct total = codes "END " ++ decimal distinct ++ space ∷ decimal total

-- a line with its line feed
abbrev pub ended : List ℕ → List ℕ
ended line = line ++ line_feed ∷ []

-- the rows, each as `WORD COUNT`
abbrev pub rows_text : ℕ → List Row → List ℕ
rows_text k rows = flat_map (λ row. row_in_columns k false row) rows

-- the header and the rows
abbrev pub front_text : ℕ → Bool → Option Origin → List Row → List ℕ
front_text k both origin rows = ended (header_line k both origin) ++ rows_text k rows

-- the end of the table of these rows
abbrev pub end_text : List Row → List ℕ
end_text rows = ended (end_line (length rows) (total_of rows))

-- the table text of a tally, with what it was counted from if that is known
abbrev pub table_text : TallySeen → Option Origin → List ℕ
table_text tally origin = front_text tally.k tally.both origin tally.rows ++ end_text tally.rows
