-- The dump, a function of a tally's rows: source, our formats page ("Reports").
use Rattle.std.specs.Prelude.{ℕ, Bool, List, [], ◌∷◌, ◌++◌, ◌&&◌, nat_le, decimal, filter, flat_map, if◌then◌else◌}
use Rattle.kc_kmer.specs.Word.{text}
use Rattle.kc_tally.specs.declared.row.Row.{Row}
use Rattle.kc_report.specs.declared.dump.Dump.{Dump}
use Rattle.kc_report.specs.Bytes.{tab, line_feed, space, greater_than}

-- whether the row's count is within the bounds, inclusive
abbrev pub is_shown : Dump → Row → Bool
is_shown dump row = nat_le dump.lower row.count && nat_le row.count dump.upper

-- a row in its two-line form: `>COUNT`, then `WORD`
abbrev pub row_in_lines : ℕ → Row → List ℕ
row_in_lines k row = greater_than ∷ decimal row.count ++ line_feed ∷ text k row.word ++ line_feed ∷ []

-- a row in columns: `WORD COUNT`, with a blank or a tab between them
abbrev pub row_in_columns : ℕ → Bool → Row → List ℕ
row_in_columns k with_tab row =
    text k row.word ++ (if with_tab then tab else space) ∷ decimal row.count ++ line_feed ∷ []

abbrev pub row_text : ℕ → Dump → Row → List ℕ
row_text k dump row = if dump.column then row_in_columns k dump.tab row else row_in_lines k row

-- a row's part of the dump: nothing if its count is out of the bounds
abbrev pub shown_text : ℕ → Dump → Row → List ℕ
shown_text k dump row = if is_shown dump row then row_text k dump row else []

-- the dump of the rows of a tally of words of length k
abbrev pub dump_text : ℕ → Dump → List Row → List ℕ
dump_text k dump rows = flat_map (row_text k dump) (filter (is_shown dump) rows)
