-- The texts that threads make of parts of a tally's rows: this project's own.
use Rattle.std.specs.Prelude.{◌≡◌, ℕ, ◌<◌, true, List, length, slice_index_or}
use Rattle.kc_tally.specs.declared.row.Row.{Row}
use Rattle.kc_report.specs.declared.dump.Dump.{Dump}
use Rattle.kc_report.specs.declared.row_pieces.PieceText.{PieceText}
use Rattle.kc_report.specs.Dumping.{dump_text}

-- the text is the dump of the rows, if it is whole
abbrev pub IsTextOf : ℕ → Dump → List Row → PieceText → Type 0
IsTextOf k dump rows text = text.whole ≡ true → text.bytes.items ≡ dump_text k dump rows

-- each text is that of the rows at its index
abbrev pub AreTextsOf : ℕ → Dump → List (List Row) → List PieceText → Type 0
AreTextsOf k dump pieces texts = (i : ℕ) (piece : List Row) (text : PieceText) → i < length pieces
    → IsTextOf k dump (slice_index_or pieces i piece) (slice_index_or texts i text)
