-- How a record is written; our formats page defines how records are read.
use Rattle.std.specs.Prelude.{ℕ, List, [], ◌∷◌, ◌++◌, Option, None, Some, if◌then◌else◌}
use Rattle.std.specs.List.{flat_map}
use Rattle.kc_fastx.specs.Lines.{line_feed}
use Rattle.kc_fastx.specs.Fasta.{greater_than}
use Rattle.kc_fastx.specs.Fastq.{at_sign, plus_sign}
use Rattle.kc_fastx.specs.Titles.{Record}
use Rattle.kc_tally.specs.Tally.{TallySeen}
use Rattle.kc_select.specs.Profiles.{profile_lines}
use Rattle.kc_select.specs.Solid.{SelectionRule, is_selected, rule_for}

-- a line and its line feed
abbrev pub line_of : List ℕ → List ℕ
line_of bytes = bytes ++ line_feed ∷ []

-- the lines of a record of FASTA: `>` and the title, and the bases in one line
abbrev pub fasta_text : List ℕ → List ℕ → List ℕ
fasta_text title bases = line_of (greater_than ∷ title) ++ line_of bases

-- the lines of a record of FASTQ: `@` and the title, the bases in one line, `+`, and the qualities in one line
abbrev pub fastq_text : List ℕ → List ℕ → List ℕ → List ℕ
fastq_text title bases quals =
    line_of (at_sign ∷ title) ++ line_of bases ++ line_of (plus_sign ∷ []) ++ line_of quals

-- a record is FASTQ if its read has qualities
abbrev pub text_with : Option (List ℕ) → List ℕ → List ℕ → List ℕ
text_with None title bases = fasta_text title bases
text_with (Some quals) title bases = fastq_text title bases quals

-- the text of a record
abbrev pub record_text : Record → List ℕ
record_text this = text_with this.read.quals this.title this.read.bases

-- what is written of a record with a selected read: its text, or the lines of its profile
abbrev pub text_of_kept : TallySeen → SelectionRule → Record → List ℕ
text_of_kept tally rule this =
    if rule.profiled then profile_lines tally (rule_for tally rule) this else record_text this

-- what is written of a record: nothing if its read is not selected
abbrev pub text_of_selected : TallySeen → SelectionRule → Record → List ℕ
text_of_selected tally rule this = if is_selected tally rule this.read then text_of_kept tally rule this else []

-- the text of the selected records, in order
abbrev pub selected_text : TallySeen → SelectionRule → List Record → List ℕ
selected_text tally rule records = flat_map (λ this. text_of_selected tally rule this) records
