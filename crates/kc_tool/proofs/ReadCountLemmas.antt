-- No source has more reads than bytes.
use Rattle.std.proofs.Common.{◌≤◌, ◌<◌, ◌+◌, ℕ, Bool, true, false, List, [], ◌∷◌, length, cond, eqb, ap, arith}
use Rattle.std.specs.Prelude.{MatchBool}
use Rattle.std.specs.List.{onto_first, slice_split}
use Rattle.std.specs.Str.Lines.{strip_carriage_return}
use Rattle.std.proofs.lemmas.List.{length-map}
use Rattle.kc_io.specs.Sources.{Seen}
use Rattle.kc_fastx.specs.Lines.{Line, line_feed, lines, next_begins_with, without_empty_last}
use Rattle.kc_fastx.specs.Reads.{Read}
use Rattle.kc_fastx.specs.Records.{RecordForm, Records}
use Rattle.kc_fastx.specs.Fasta.{IsFastaRecord, greater_than}
use Rattle.kc_fastx.specs.Fastq.{IsFastqRecord}
use Rattle.kc_fastx.specs.Parsing.{GivesReads, HasReads, IsFastq, text_lines}
use Rattle.kc_fastx.proofs.FastaLemmas.{fasta_shorter}
use Rattle.kc_fastx.proofs.FastqLemmas.{fastq_shorter, length-skip_blanks}

-- A record takes a line or more.
count-Records : (Record : RecordForm) → ((ls : List Line) (read : Read) (rest : List Line) → Record ls read rest → length rest < length ls)
    → (ls : List Line) (reads : List Read) (rest : List Line) → Records Record ls reads rest → length reads + length rest ≤ length ls
count-Records Record shorter ls [] rest e = omega (arith, ap length e)
count-Records Record shorter ls (read ∷ reads) rest h =
    omega (arith, shorter ls read h.0 h.1, count-Records Record shorter h.0 reads rest h.2)

-- A line has a byte or more, with its line end.
behind_empty : (parts : List (List ℕ)) → length (without_empty_last ([] ∷ parts)) ≤ 1 + length (without_empty_last parts)
behind_empty [] = omega arith
behind_empty (part ∷ parts) = omega arith

with_first : (b : ℕ) (parts : List (List ℕ)) → length (without_empty_last (onto_first b parts)) ≤ 1 + length (without_empty_last parts)
with_first b [] = omega arith
with_first b (part ∷ []) = omega arith
with_first b ([] ∷ next ∷ more) = omega arith
with_first b ((c ∷ part) ∷ next ∷ more) = omega arith

few_parts : (bytes : List ℕ) → length (without_empty_last (slice_split (λ b. eqb b line_feed) bytes)) ≤ length bytes
few_parts [] = omega arith
few_parts (b ∷ bs) =
    let parts = slice_split (λ b. eqb b line_feed) bs in
    elim (eqb b line_feed) as (λ t. length (without_empty_last (cond t ([] ∷ parts) (onto_first b parts))) ≤ length (b ∷ bs)) [
      | true ↦ omega (arith, few_parts bs, behind_empty parts)
      | false ↦ omega (arith, few_parts bs, with_first b parts)
    ]

few_lines : (bytes : List ℕ) → length (lines bytes) ≤ length bytes
few_lines bytes =
    let parts = without_empty_last (slice_split (λ b. eqb b line_feed) bytes) in
    omega (arith, few_parts bytes, length-map parts strip_carriage_return)

count-either : (is_fasta : Bool) (bytes : List ℕ) (reads : List Read)
    → MatchBool is_fasta (Records IsFastaRecord (text_lines bytes) reads []) (IsFastq (text_lines bytes) reads) → length reads ≤ length bytes
count-either true bytes reads h =
    omega (arith, few_lines bytes, length-skip_blanks (lines bytes), count-Records IsFastaRecord fasta_shorter (text_lines bytes) reads [] h)
count-either false bytes reads h =
    omega (arith, few_lines bytes, length-skip_blanks (lines bytes), count-Records IsFastqRecord fastq_shorter (text_lines bytes) reads h.rest h.records)

-- No bytes have more reads than bytes.
pub read_count-within : (bytes : List ℕ) (reads : List Read) → HasReads bytes reads → length reads ≤ length bytes
read_count-within bytes reads h = count-either (next_begins_with greater_than (text_lines bytes)) bytes reads h

pub read_count-gives : (start now : Seen) (limit : ℕ) (reads : List Read) (count : ℕ) → GivesReads start now limit reads count → length reads ≤ count
read_count-gives start now limit reads count gives =
    let fits = read_count-within gives.bytes reads gives.has_reads in
    omega (arith, gives.counted, fits)
