-- The reads have no more bases together than the input has bytes.
use Rattle.std.proofs.Common.{◌≡◌, ℕ, ◌+◌, ◌-◌, ◌≤◌, true, false, cond, eqb, List, [], ◌∷◌, ◌++◌, length, take, map, get_or, refl, ap, ◌∙◌, arith}
use Rattle.std.specs.List.{concat, slice_split, onto_first}
use Rattle.std.specs.Str.Lines.{strip_carriage_return}
use Rattle.std.proofs.lemmas.List.{length-append, length-take}
use Rattle.std.proofs.lemmas.List.Folds.{concat-append}
use Rattle.std.proofs.lemmas.List.Sums.{sum_by-cons}
use Rattle.kc_fastx.specs.Lines.{line_feed, Line, lines, without_empty_last, skip_blanks}
use Rattle.kc_fastx.specs.Reads.{Read, base_count}
use Rattle.kc_fastx.specs.Records.{Records}
use Rattle.kc_fastx.specs.Fasta.{IsFastaRecord}
use Rattle.kc_fastx.specs.Fastq.{IsFastqRecord}
use Rattle.kc_fastx.specs.Parsing.{IsFastq}

-- how many bytes the lines have together
abbrev byte_count : List Line → ℕ
byte_count ls = length (concat ls)

byte_count-cons : (line : Line) (ls : List Line) → byte_count (line ∷ ls) ≡ length line + byte_count ls
byte_count-cons line ls = length-append line (concat ls)

byte_count-append : (xs ys : List Line) → byte_count (xs ++ ys) ≡ byte_count xs + byte_count ys
byte_count-append xs ys = ap length (concat-append xs ys) ∙ length-append (concat xs) (concat ys)

byte_count-skip_blanks : (ls : List Line) → byte_count (skip_blanks ls) ≡ byte_count ls
byte_count-skip_blanks [] = refl
byte_count-skip_blanks ([] ∷ ls) = byte_count-skip_blanks ls
byte_count-skip_blanks ((b ∷ bs) ∷ ls) = refl

-- a record has its bases from its own lines
abbrev pub TakesBases : (List Line → Read → List Line → Type 0) → Type 0
TakesBases Record = (ls : List Line) (read : Read) (rest : List Line) → Record ls read rest → length read.bases + byte_count rest ≤ byte_count ls

base_count-Records : (Record : List Line → Read → List Line → Type 0) → TakesBases Record → (ls : List Line) (reads : List Read) (rest : List Line)
    → Records Record ls reads rest → base_count reads + byte_count rest ≤ byte_count ls
base_count-Records Record takes ls [] rest e = omega (arith, ap byte_count e)
base_count-Records Record takes ls (read ∷ reads) rest h =
    omega (arith, takes ls read h.0 h.1, base_count-Records Record takes h.0 reads rest h.2, sum_by-cons (λ (read : Read). length read.bases) read reads)

takes-fasta : TakesBases IsFastaRecord
takes-fasta ls read rest h =
    let s = h.sequence in
    omega (arith, ap byte_count h.title.whole, byte_count-cons h.title.title h.body, ap byte_count s.split, byte_count-append s.sequence rest, ap length s.joined)

takes-fastq : TakesBases IsFastqRecord
takes-fastq ls read rest h =
    let s = h.record_body.front.sequence in
    let q = h.record_body.quality in
    omega (
      arith,
      byte_count-skip_blanks ls,
      ap byte_count h.title.whole,
      byte_count-cons h.title.title h.body,
      ap byte_count s.split,
      byte_count-append s.sequence (h.record_body.front.plus ∷ h.record_body.after),
      byte_count-cons h.record_body.front.plus h.record_body.after,
      ap byte_count q.split,
      byte_count-append q.taken rest,
      ap length s.joined,
    )

byte_count-onto_first : (b : ℕ) (parts : List (List ℕ)) → byte_count (onto_first b parts) ≡ 1 + byte_count parts
byte_count-onto_first b [] = refl
byte_count-onto_first b (part ∷ parts) = omega arith

byte_count-split : (bytes : List ℕ) → byte_count (slice_split (λ b. eqb b line_feed) bytes) ≤ length bytes
byte_count-split [] = omega arith
byte_count-split (b ∷ bs) =
    elim (eqb b line_feed) as (λ t. byte_count (cond t ([] ∷ slice_split (λ b. eqb b line_feed) bs) (onto_first b (slice_split (λ b. eqb b line_feed) bs))) ≤ length (b ∷ bs)) [
      | true ↦ omega (arith, byte_count-split bs)
      | false ↦ omega (arith, byte_count-split bs, byte_count-onto_first b (slice_split (λ b. eqb b line_feed) bs))
    ]

byte_count-without_empty_last : (parts : List (List ℕ)) → byte_count (without_empty_last parts) ≤ byte_count parts
byte_count-without_empty_last [] = omega arith
byte_count-without_empty_last ([] ∷ []) = omega arith
byte_count-without_empty_last ((b ∷ bs) ∷ []) = omega arith
byte_count-without_empty_last ([] ∷ next ∷ more) = byte_count-without_empty_last (next ∷ more)
byte_count-without_empty_last ((b ∷ bs) ∷ next ∷ more) =
    omega (arith, byte_count-without_empty_last (next ∷ more), byte_count-cons (b ∷ bs) (without_empty_last (next ∷ more)), byte_count-cons (b ∷ bs) (next ∷ more))

length-strip : (line : Line) → length (strip_carriage_return line) ≤ length line
length-strip line =
    elim (eqb (get_or line (length line - 1) 0) 13) as (λ t. length (cond t (take (length line - 1) line) line) ≤ length line) [
      | true ↦ omega (arith, length-take (length line - 1) line)
      | false ↦ omega arith
    ]

byte_count-strip : (ls : List Line) → byte_count (map strip_carriage_return ls) ≤ byte_count ls
byte_count-strip [] = omega arith
byte_count-strip (line ∷ ls) =
    omega (arith, byte_count-strip ls, length-strip line, byte_count-cons line ls, byte_count-cons (strip_carriage_return line) (map strip_carriage_return ls))

byte_count-lines : (bytes : List ℕ) → byte_count (lines bytes) ≤ length bytes
byte_count-lines bytes =
    omega (
      arith,
      byte_count-strip (without_empty_last (slice_split (λ b. eqb b line_feed) bytes)),
      byte_count-without_empty_last (slice_split (λ b. eqb b line_feed) bytes),
      byte_count-split bytes,
    )

pub base_count-fasta : (bytes : List ℕ) (reads : List Read) → Records IsFastaRecord (skip_blanks (lines bytes)) reads [] → base_count reads ≤ length bytes
base_count-fasta bytes reads h =
    omega (arith, base_count-Records IsFastaRecord takes-fasta (skip_blanks (lines bytes)) reads [] h, byte_count-skip_blanks (lines bytes), byte_count-lines bytes)

pub base_count-fastq : (bytes : List ℕ) (reads : List Read) → IsFastq (skip_blanks (lines bytes)) reads → base_count reads ≤ length bytes
base_count-fastq bytes reads h =
    omega (arith, base_count-Records IsFastqRecord takes-fastq (skip_blanks (lines bytes)) reads h.rest h.records, byte_count-skip_blanks (lines bytes), byte_count-lines bytes)

-- the same of records after which other lines come
pub base_count-fasta-front : (bytes : List ℕ) (reads : List Read) (rest : List Line)
    → Records IsFastaRecord (skip_blanks (lines bytes)) reads rest → base_count reads ≤ length bytes
base_count-fasta-front bytes reads rest h =
    omega (arith, base_count-Records IsFastaRecord takes-fasta (skip_blanks (lines bytes)) reads rest h, byte_count-skip_blanks (lines bytes), byte_count-lines bytes)

pub base_count-fastq-front : (bytes : List ℕ) (reads : List Read) (rest : List Line)
    → Records IsFastqRecord (skip_blanks (lines bytes)) reads rest → base_count reads ≤ length bytes
base_count-fastq-front bytes reads rest h =
    omega (arith, base_count-Records IsFastqRecord takes-fastq (skip_blanks (lines bytes)) reads rest h, byte_count-skip_blanks (lines bytes), byte_count-lines bytes)
