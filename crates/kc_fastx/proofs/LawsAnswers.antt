-- Every input has a result: its reads or its first fault.
use Rattle.std.proofs.Common.{◌≡◌, ℕ, zero, suc, ◌+◌, ◌-◌, ◌<◌, ◌≤◌, true, false, List, [], ◌∷◌, ◌++◌, length, refl, sym, ap, subst, ◌∙◌, arith, Some, None, Ok, Err, Result, inl, inr, ◌⊎◌, ⊎_elim}
use Rattle.std.specs.List.{list_all}
use Rattle.std.proofs.lemmas.Bool.{cases_lt, cases_Bool}
use Rattle.std.proofs.lemmas.List.{length-append}
use Rattle.kc_fastx.specs.declared.read_faults.FastxFault.{FastxFault}
use Rattle.kc_fastx.specs.declared.read_faults.FastxFault.TheVariants.{BadStart, BadBase, BadQuality, LongQuality, Truncated}
use Rattle.kc_fastx.specs.Reads.{Read, read_of, is_sequence_byte, is_quality_byte}
use Rattle.kc_fastx.specs.Lines.{Line, Cursor, lines, begins_with, next_begins_with, skip_blanks, line_count, ends_or_begins_with}
use Rattle.kc_fastx.specs.Records.{Records, BeginsWithSequence, SequenceFails, FirstFault}
use Rattle.kc_fastx.specs.Fasta.{IsFastaRecord, FastaFails, greater_than}
use Rattle.kc_fastx.specs.Fastq.{BeginsWithQuality, QualityFails, IsFastqBody, FastqBodyFails, IsFastqRecord, FastqFails, at_sign, plus_sign}
use Rattle.kc_fastx.specs.Parsing.{IsFastq, IsReadsOf, text_lines}
use Rattle.kc_fastx.proofs.ParsingLemmas.{at_true, at_false}
use Rattle.kc_fastx.proofs.RecordsLemmas.{SequenceSoFar, TakesLine, sequence_none, sequence_more, sequence_bad, line_count-more, records_none}
use Rattle.kc_fastx.proofs.FastaLemmas.{FastaSoFar, title_at, fasta_more, fasta_fails}
use Rattle.kc_fastx.proofs.FastqLemmas.{QualitySoFar, quality_none, quality_more, quality_all, quality_short, has_plus, fastq_body, body_fails-sequence, body_fails-quality, body_fails-end, FastqSoFar, fastq_none, fastq_more, fastq_all, fastq_bad_start, fastq_fails, length-skip_blanks, length-body}

-- one line on
abbrev after_line : Cursor → List Line → Cursor
after_line now more = record now { taken = now.taken + 1; left = more }

takes_line : (now : Cursor) (line : Line) (more : List Line) → now.left ≡ line ∷ more → TakesLine now (after_line now more) line
takes_line now line more e = record { left = e; taken = refl }

-- the sequence lines from `start` on are whole, or one of them is bad
pub record WholeSequence (stop : ℕ) (start : Cursor) : Type 0 where
  pub bases : List ℕ
  pub end : Cursor
  pub sequence : BeginsWithSequence stop start.left bases end.left
  pub ends : ends_or_begins_with stop end.left ≡ true
  pub counted : line_count end ≡ line_count start

abbrev SequenceAnswer : ℕ → Cursor → Type 0
SequenceAnswer stop start = WholeSequence stop start ⊎ ((fault : FastxFault) × SequenceFails (line_count start) stop start.left fault)

whole_here : (stop : ℕ) (start now : Cursor) (bases : List ℕ) → SequenceSoFar stop start now bases → ends_or_begins_with stop now.left ≡ true → SequenceAnswer stop start
whole_here stop start now bases before ends =
    inl (record { bases = bases; end = now; sequence = before.so_far; ends = ends; counted = before.counted })

sequence_answer : (ls : List Line) (stop : ℕ) (start now : Cursor) (bases : List ℕ) → now.left ≡ ls → SequenceSoFar stop start now bases → SequenceAnswer stop start
sequence_answer [] stop start now bases e before = whole_here stop start now bases before (ap (ends_or_begins_with stop) e)
sequence_answer (line ∷ more) stop start now bases e before =
    let next = after_line now more in
    let step = takes_line now line more e in
    ⊎_elim
    (λ (stops : begins_with stop line ≡ true). whole_here stop start now bases before (ap (ends_or_begins_with stop) e ∙ stops))
    (λ (goes_on : begins_with stop line ≡ false).
    ⊎_elim
    (λ (good : list_all is_sequence_byte line ≡ true). sequence_answer more stop start next (bases ++ line) refl (sequence_more stop start now next bases line before (record { step = step; goes_on = goes_on; accepted = good })))
    (λ (bad : list_all is_sequence_byte line ≡ false). inr (BadBase next.taken, sequence_bad stop start now next bases line before (record { step = step; goes_on = goes_on; accepted = bad })))
    (cases_Bool (list_all is_sequence_byte line)))
    (cases_Bool (begins_with stop line))

length-sequence : (stop : ℕ) (ls : List Line) (bases : List ℕ) (rest : List Line) → BeginsWithSequence stop ls bases rest → length rest ≤ length ls
length-sequence stop ls bases rest s = omega (arith, ap length s.split, length-append s.sequence rest)

-- FASTA

abbrev FastaAnswer : Cursor → Type 0
FastaAnswer start =
    ((reads : List Read) × Records IsFastaRecord start.left reads [])
    ⊎ ((fault : FastxFault) × FirstFault IsFastaRecord (FastaFails (line_count start)) start.left fault)

fasta_answer : (fuel : ℕ) (ls : List Line) (start now : Cursor) (reads : List Read) → now.left ≡ ls → length ls ≤ fuel
    → FastaSoFar start now reads → FastaAnswer start
fasta_answer fuel [] start now reads e fits before = inl (reads, subst (Records IsFastaRecord start.left reads) e before.records.so_far)
fasta_answer zero (title ∷ more) start now reads e fits before = absurd (omega arith)
fasta_answer (suc fuel) (title ∷ more) start now reads e fits before =
    let next = after_line now more in
    let t = title_at now next title before.at (takes_line now title more e) in
    ⊎_elim
    (λ (w : WholeSequence greater_than next).
    fasta_answer fuel w.end.left start w.end (reads ++ read_of w.bases None ∷ []) refl
    (omega (arith, length-sequence greater_than more w.bases w.end.left w.sequence))
    (fasta_more start now w.end reads w.bases before (record { next = next; title = t; sequence = w.sequence; ends = w.ends; counted = w.counted })))
    (λ (f : (fault : FastxFault) × SequenceFails (line_count next) greater_than next.left fault).
    inr (f.0, fasta_fails start now next reads f.0 before.records t f.1))
    (sequence_answer more greater_than next next [] refl (sequence_none greater_than next))

-- FASTQ

pub record WholeQuality (need : ℕ) (start : Cursor) : Type 0 where
  pub quals : List ℕ
  pub end : Cursor
  pub quality : BeginsWithQuality need start.left quals end.left
  pub counted : line_count end ≡ line_count start

abbrev QualityAnswer : ℕ → Cursor → Type 0
QualityAnswer need start = WholeQuality need start ⊎ ((fault : FastxFault) × QualityFails (line_count start) need start.left fault)

quality_whole : (need : ℕ) (start now : Cursor) (quals : List ℕ) → QualitySoFar need start now quals → need ≤ length quals → QualityAnswer need start
quality_whole need start now quals before enough =
    inl (record { quals = quals; end = now; quality = quality_all need start now quals before enough; counted = before.counted })

quality_answer : (ls : List Line) (need : ℕ) (start now : Cursor) (quals : List ℕ) → now.left ≡ ls → QualitySoFar need start now quals → QualityAnswer need start
quality_answer [] need start now quals e before =
    ⊎_elim
    (λ (short : length quals < need).
    inr (Truncated now.taken, (quals, quality_short need start now quals [] before short e, omega (arith, ap length e, before.counted))))
    (λ (enough : need ≤ length quals). quality_whole need start now quals before enough)
    (cases_lt (length quals) need)
quality_answer (line ∷ more) need start now quals e before =
    let next = after_line now more in
    let step = takes_line now line more e in
    let counted : line_count next ≡ line_count start = line_count-more now next line step ∙ before.counted in
    ⊎_elim
    (λ (short : length quals < need).
    ⊎_elim
    (λ (good : list_all is_quality_byte line ≡ true).
    ⊎_elim
    (λ (over : need < length quals + length line).
    inr (LongQuality next.taken, (quals, line, more, quality_short need start now quals (line ∷ more) before short e, good, over, counted)))
    (λ (fits : length quals + length line ≤ need).
    quality_answer more need start next (quals ++ line) refl (quality_more need start now next quals line before (record { short = short; step = step; accepted = good; fits = fits })))
    (cases_lt need (length quals + length line)))
    (λ (bad : list_all is_quality_byte line ≡ false).
    inr (BadQuality next.taken, (quals, line, more, quality_short need start now quals (line ∷ more) before short e, bad, counted)))
    (cases_Bool (list_all is_quality_byte line)))
    (λ (enough : need ≤ length quals). quality_whole need start now quals before enough)
    (cases_lt (length quals) need)

pub record WholeBody (start : Cursor) : Type 0 where
  pub read : Read
  pub end : Cursor
  pub body : IsFastqBody start.left read end.left
  pub counted : line_count end ≡ line_count start

abbrev BodyAnswer : Cursor → Type 0
BodyAnswer start = WholeBody start ⊎ ((fault : FastxFault) × FastqBodyFails (line_count start) start.left fault)

behind_sequence : (ls : List Line) (start : Cursor) (w : WholeSequence plus_sign start) → w.end.left ≡ ls → BodyAnswer start
behind_sequence [] start w e = inr (Truncated w.end.taken, body_fails-end start w.end w.bases w.sequence e w.counted)
behind_sequence (plus ∷ more) start w e =
    let after = after_line w.end more in
    let front = has_plus start w.end after w.bases plus w.sequence w.ends e in
    let counted : line_count after ≡ line_count start = line_count-more w.end after plus (takes_line w.end plus more e) ∙ w.counted in
    ⊎_elim
    (λ (q : WholeQuality (length w.bases) after).
    inl (record { read = read_of w.bases (Some q.quals); end = q.end; body = fastq_body start after q.end w.bases q.quals front q.quality; counted = q.counted ∙ counted }))
    (λ (f : (fault : FastxFault) × QualityFails (line_count after) (length w.bases) after.left fault).
    inr (f.0, body_fails-quality (line_count start) start.left w.bases after.left front f.0 (subst (λ count. QualityFails count (length w.bases) after.left f.0) counted f.1)))
    (quality_answer more (length w.bases) after after [] refl (quality_none (length w.bases) after))

body_answer : (start : Cursor) → BodyAnswer start
body_answer start =
    ⊎_elim
    (λ (w : WholeSequence plus_sign start). behind_sequence w.end.left start w refl)
    (λ (f : (fault : FastxFault) × SequenceFails (line_count start) plus_sign start.left fault).
    inr (f.0, body_fails-sequence (line_count start) start.left f.0 f.1))
    (sequence_answer start.left plus_sign start start [] refl (sequence_none plus_sign start))

-- past the blank lines
abbrev past_blanks : Cursor → Cursor
past_blanks now = record now { taken = now.taken + (length now.left - length (skip_blanks now.left)); left = skip_blanks now.left }

line_count-past : (now : Cursor) → line_count (past_blanks now) ≡ line_count now
line_count-past now = omega (arith, length-skip_blanks now.left)

abbrev FastqAnswer : Cursor → Type 0
FastqAnswer start =
    ((reads : List Read) × IsFastq start.left reads)
    ⊎ ((fault : FastxFault) × FirstFault IsFastqRecord (FastqFails (line_count start)) start.left fault)

fastq_answer : (fuel : ℕ) (ls : List Line) (start now : Cursor) (reads : List Read) → now.left ≡ ls → length ls ≤ fuel
    → FastqSoFar start now reads → FastqAnswer start
fastq_answer fuel [] start now reads e fits before = inl (reads, fastq_all start now reads before e)
fastq_answer zero (title ∷ more) start now reads e fits before = absurd (omega arith)
fastq_answer (suc fuel) (title ∷ more) start now reads e fits before =
    let next = after_line now more in
    let step = takes_line now title more e in
    ⊎_elim
    (λ (is : begins_with at_sign title ≡ true).
    ⊎_elim
    (λ (w : WholeBody next).
    let past = past_blanks w.end in
    fastq_answer fuel past.left start past (reads ++ w.read ∷ []) refl
    (omega (arith, length-body more w.read w.end.left w.body, length-skip_blanks w.end.left))
    (fastq_more start now past reads w.read before (record {
      next = next;
      title = record { title = title; step = step; is_title = is };
      after = w.end.left;
      body = w.body;
      past_blanks = refl;
      counted = line_count-past w.end ∙ w.counted;
    })))
    (λ (f : (fault : FastxFault) × FastqBodyFails (line_count next) next.left fault).
    inr (f.0, fastq_fails start now next reads before (record { title = title; step = step; is_title = is }) f.0 f.1))
    (body_answer next))
    (λ (is_not : begins_with at_sign title ≡ false). inr (BadStart next.taken, fastq_bad_start start now next reads title before step is_not))
    (cases_Bool (begins_with at_sign title))

-- both

at_title : (ls : List Line) → next_begins_with greater_than ls ≡ true → ends_or_begins_with greater_than ls ≡ true
at_title [] e = refl
at_title (line ∷ ls) e = e

skip_blanks-twice : (ls : List Line) → skip_blanks (skip_blanks ls) ≡ skip_blanks ls
skip_blanks-twice [] = refl
skip_blanks-twice ([] ∷ ls) = skip_blanks-twice ls
skip_blanks-twice ((b ∷ bs) ∷ ls) = refl

abbrev Answer : List ℕ → Type 0
Answer bytes = (answer : Result (List Read) FastxFault) × IsReadsOf bytes answer

as_fasta : (bytes : List ℕ) (count : ℕ) → count ≡ length (lines bytes) → next_begins_with greater_than (text_lines bytes) ≡ true
    → ((reads : List Read) × Records IsFastaRecord (text_lines bytes) reads []) ⊎ ((fault : FastxFault) × FirstFault IsFastaRecord (FastaFails count) (text_lines bytes) fault)
    → Answer bytes
as_fasta bytes count counted is =
    ⊎_elim
    (λ (r : (reads : List Read) × Records IsFastaRecord (text_lines bytes) reads []). let whole : Answer bytes = (Ok r.0, at_true (next_begins_with greater_than (text_lines bytes)) _ _ is r.1) in whole)
    (λ (f : (fault : FastxFault) × FirstFault IsFastaRecord (FastaFails count) (text_lines bytes) fault).
    let failed : Answer bytes =
    (Err f.0, at_true (next_begins_with greater_than (text_lines bytes)) _ _ is (subst (λ n. FirstFault IsFastaRecord (FastaFails n) (text_lines bytes) f.0) counted f.1)) in
    failed)

as_fastq : (bytes : List ℕ) (count : ℕ) → count ≡ length (lines bytes) → next_begins_with greater_than (text_lines bytes) ≡ false
    → ((reads : List Read) × IsFastq (text_lines bytes) reads) ⊎ ((fault : FastxFault) × FirstFault IsFastqRecord (FastqFails count) (text_lines bytes) fault)
    → Answer bytes
as_fastq bytes count counted is =
    ⊎_elim
    (λ (r : (reads : List Read) × IsFastq (text_lines bytes) reads). let whole : Answer bytes = (Ok r.0, at_false (next_begins_with greater_than (text_lines bytes)) _ _ is r.1) in whole)
    (λ (f : (fault : FastxFault) × FirstFault IsFastqRecord (FastqFails count) (text_lines bytes) fault).
    let failed : Answer bytes =
    (Err f.0, at_false (next_begins_with greater_than (text_lines bytes)) _ _ is (subst (λ n. FirstFault IsFastqRecord (FastqFails n) (text_lines bytes) f.0) counted f.1)) in
    failed)

pub answer : (bytes : List ℕ) → (answer : Result (List Read) FastxFault) × IsReadsOf bytes answer
answer bytes =
    let start : Cursor = past_blanks (record { taken = 0; left = lines bytes; bytes = bytes }) in
    let counted : line_count start ≡ length (lines bytes) = omega (arith, length-skip_blanks (lines bytes)) in
    ⊎_elim
    (λ (is : next_begins_with greater_than (text_lines bytes) ≡ true).
    as_fasta bytes (line_count start) counted is
    (fasta_answer (length (text_lines bytes)) (text_lines bytes) start start [] refl (omega arith) (record { records = records_none IsFastaRecord start; at = at_title (text_lines bytes) is })))
    (λ (is : next_begins_with greater_than (text_lines bytes) ≡ false).
    as_fastq bytes (line_count start) counted is
    (fastq_answer (length (text_lines bytes)) (text_lines bytes) start start [] refl (omega arith) (fastq_none start start (sym (skip_blanks-twice (lines bytes))) refl)))
    (cases_Bool (next_begins_with greater_than (text_lines bytes)))
