-- The records of lines that are followed by others.
use Rattle.std.proofs.Common.{◌≡◌, ℕ, ◌+◌, ◌<◌, true, false, List, [], ◌∷◌, ◌++◌, length, refl, sym, ap, ◌∙◌, subst, arith}
use Rattle.std.proofs.Common.{append_assoc, append-nil, length-append}
use Rattle.std.specs.Prelude.{⊤}
use Rattle.kc_fastx.specs.declared.read_faults.FastxFault.{FastxFault}
use Rattle.kc_fastx.specs.declared.read_faults.FastxFault.TheVariants.{BadStart, BadBase, BadQuality, LongQuality}
use Rattle.kc_fastx.specs.declared.read_faults.FastxFault.TheVariants.{Truncated, TooLong, Read as ReadFailed, Memory}
use Rattle.kc_fastx.specs.declared.read_faults.FastxFault.TheVariants.{BrokenGzip, ShortGzip}
use Rattle.kc_fastx.specs.Reads.{Read}
use Rattle.kc_fastx.proofs.RecordsLemmas.{Records-push, TakesLine}
use Rattle.kc_fastx.proofs.FastqLemmas.{FastqSoFar}
use Rattle.kc_fastx.specs.Lines.{Line, Cursor, line_count, ends_or_begins_with, skip_blanks}
use Rattle.kc_fastx.specs.Records.{FirstFault, BeginsWithSequence, IsLineNumber, SequenceFails}
use Rattle.kc_fastx.specs.Fasta.{IsFastaRecord, BeginsWithFastaTitle, FastaFails, greater_than}
use Rattle.kc_fastx.specs.Fastq.{IsFastqRecord, BeginsWithFastqTitle, HasPlus, BeginsWithQuality, HasShortQuality, QualityFails, FailsBehindPlus}
use Rattle.kc_fastx.specs.Fastq.{FastqFails, plus_sign}

-- ---- blank lines

pub skip_blanks-again : (ls : List Line) → skip_blanks (skip_blanks ls) ≡ skip_blanks ls
skip_blanks-again [] = refl
skip_blanks-again ([] ∷ ls) = skip_blanks-again ls
skip_blanks-again ((b ∷ bs) ∷ ls) = refl

pub skip_blanks-append : (ls tail : List Line) (line : Line) (more : List Line) → skip_blanks ls ≡ line ∷ more
    → skip_blanks (ls ++ tail) ≡ skip_blanks ls ++ tail
skip_blanks-append [] tail line more e = absurd (let no = ap (λ (v : List Line). length v) e in omega (arith, no))
skip_blanks-append ([] ∷ ls) tail line more e = skip_blanks-append ls tail line more e
skip_blanks-append ((b ∷ bs) ∷ ls) tail line more e = refl

-- lines of which the first begins with the byte
pub at_front : (byte : ℕ) (ls tail : List Line) → ends_or_begins_with byte (ls ++ tail) ≡ true
    → ends_or_begins_with byte ls ≡ true
at_front byte [] tail h = refl
at_front byte (line ∷ ls) tail h = h

pub skip_blanks-at : (byte : ℕ) (ls : List Line) → ends_or_begins_with byte ls ≡ true → skip_blanks ls ≡ ls
skip_blanks-at byte [] h = refl
skip_blanks-at byte ([] ∷ ls) h = absurd (let no : false ≡ true = h in cc)
skip_blanks-at byte ((b ∷ bs) ∷ ls) h = refl

-- a blank line is skipped
pub skip_blanks-next : (now next : Cursor) (line : Line) → TakesLine now next line → length line < 1
    → skip_blanks next.left ≡ skip_blanks now.left
skip_blanks-next now next [] step blank = sym (ap skip_blanks step.left)
skip_blanks-next now next (b ∷ bs) step blank = absurd (omega (arith, blank))

-- ---- records

split-tail : (ls front rest tail : List Line) → ls ≡ front ++ rest → ls ++ tail ≡ front ++ (rest ++ tail)
split-tail ls front rest tail e = ap (λ v. v ++ tail) e ∙ append_assoc front rest tail

pub sequence_tail : (stop : ℕ) (ls : List Line) (bases : List ℕ) (rest tail : List Line)
    → BeginsWithSequence stop ls bases rest
    → BeginsWithSequence stop (ls ++ tail) bases (rest ++ tail)
sequence_tail stop ls bases rest tail s = record {
  sequence = s.sequence;
  split = split-tail ls s.sequence rest tail s.split;
  none_stops = s.none_stops;
  joined = s.joined;
  accepted = s.accepted;
}

fasta_title_tail : (ls body tail : List Line) → BeginsWithFastaTitle ls body
    → BeginsWithFastaTitle (ls ++ tail) (body ++ tail)
fasta_title_tail ls body tail t = record { title = t.title; whole = ap (λ v. v ++ tail) t.whole; is_title = t.is_title }

pub fasta_tail : (ls : List Line) (read : Read) (rest tail : List Line) → IsFastaRecord ls read rest
    → ends_or_begins_with greater_than (rest ++ tail) ≡ true → IsFastaRecord (ls ++ tail) read (rest ++ tail)
fasta_tail ls read rest tail r ends = record {
  body = r.body ++ tail;
  title = fasta_title_tail ls r.body tail r.title;
  sequence = sequence_tail greater_than r.body read.bases rest tail r.sequence;
  ends = ends;
  no_quals = r.no_quals;
}

fastq_title_tail : (ls body tail : List Line) → BeginsWithFastqTitle ls body
    → BeginsWithFastqTitle (ls ++ tail) (body ++ tail)
fastq_title_tail ls body tail t = record {
  title = t.title;
  whole = skip_blanks-append ls tail t.title body t.whole ∙ ap (λ v. v ++ tail) t.whole;
  is_title = t.is_title;
}

plus_tail : (body : List Line) (bases : List ℕ) (after tail : List Line) → HasPlus body bases after
    → HasPlus (body ++ tail) bases (after ++ tail)
plus_tail body bases after tail p = record {
  plus = p.plus;
  sequence = sequence_tail plus_sign body bases
      (p.plus ∷ after) tail p.sequence;
  is_plus = p.is_plus;
}

quality_tail : (need : ℕ) (ls : List Line) (quals : List ℕ) (rest tail : List Line)
    → BeginsWithQuality need ls quals rest
    → BeginsWithQuality need (ls ++ tail) quals (rest ++ tail)
quality_tail need ls quals rest tail q = record {
  taken = q.taken;
  split = split-tail ls q.taken rest tail q.split;
  joined = q.joined;
  accepted = q.accepted;
  long_enough = q.long_enough;
  fronts_shorter = q.fronts_shorter;
}

pub fastq_tail : (ls : List Line) (read : Read) (rest tail : List Line) → IsFastqRecord ls read rest
    → IsFastqRecord (ls ++ tail) read (rest ++ tail)
fastq_tail ls read rest tail r =
    let b = r.record_body in
    record {
      body = r.body ++ tail;
      title = fastq_title_tail ls r.body tail r.title;
      record_body = record {
        after = b.after ++ tail;
        front = plus_tail r.body read.bases b.after tail b.front;
        quals = b.quals;
        quality = quality_tail (length read.bases) b.after b.quals rest tail b.quality;
        has_quals = b.has_quals;
      };
    }

-- ---- faults

number_tail : (count : ℕ) (more tail : List Line) (number : ℕ) → IsLineNumber count more number
    → IsLineNumber (count + length tail) (more ++ tail) number
number_tail count more tail number e = omega (arith, e, length-append more tail)

sequence_fails_tail : (count stop : ℕ) (ls tail : List Line) (fault : FastxFault) → SequenceFails count stop ls fault
    → SequenceFails (count + length tail) stop (ls ++ tail) fault
sequence_fails_tail count stop ls tail (BadBase number) h =
    let bad = h.1 in (
      h.0 ++ tail,
      record {
        bases = bad.bases;
        line = bad.line;
        before = sequence_tail stop ls bad.bases
            (bad.line ∷ h.0) tail bad.before;
        goes_on = bad.goes_on;
        bad = bad.bad;
      },
      number_tail count h.0 tail number h.2,
    )
sequence_fails_tail count stop ls tail (BadStart number) h = h
sequence_fails_tail count stop ls tail (BadQuality number) h = h
sequence_fails_tail count stop ls tail (LongQuality number) h = h
sequence_fails_tail count stop ls tail (Truncated number) h = h
sequence_fails_tail count stop ls tail TooLong h = h
sequence_fails_tail count stop ls tail ReadFailed h = h
sequence_fails_tail count stop ls tail BrokenGzip h = h
sequence_fails_tail count stop ls tail ShortGzip h = h
sequence_fails_tail count stop ls tail Memory h = h

pub fasta_fails_tail : (count : ℕ) (ls tail : List Line) (fault : FastxFault) → FastaFails count ls fault
    → FastaFails (count + length tail) (ls ++ tail) fault
fasta_fails_tail count ls tail fault h =
    (h.0 ++ tail, fasta_title_tail ls h.0 tail h.1, sequence_fails_tail count greater_than h.0 tail fault h.2)

short_tail : (need : ℕ) (ls : List Line) (quals : List ℕ) (rest tail : List Line)
    → HasShortQuality need ls quals rest → HasShortQuality need (ls ++ tail) quals (rest ++ tail)
short_tail need ls quals rest tail q =
    record {
      taken = q.taken;
      split = split-tail ls q.taken rest tail q.split;
      joined = q.joined;
      accepted =
          q.accepted;
      short = q.short;
    }

-- that the lines end is so only if none follow
abbrev pub Remains : FastxFault → List Line → Type 0
Remains (Truncated number) tail = tail ≡ []
Remains fault tail = ⊤

quality_fails_tail : (count need : ℕ) (ls tail : List Line) (fault : FastxFault) → Remains fault tail → QualityFails count need ls fault
    → QualityFails (count + length tail) need (ls ++ tail) fault
quality_fails_tail count need ls tail (BadQuality number) same q =
    (q.0, q.1, q.2 ++ tail, short_tail need ls q.0 (q.1 ∷ q.2) tail q.3, q.4, number_tail count q.2 tail number q.5)
quality_fails_tail count need ls tail (LongQuality number) same q =
    (q.0, q.1, q.2 ++ tail, short_tail need ls q.0 (q.1 ∷ q.2) tail q.3, q.4, q.5, number_tail count q.2 tail number q.6)
quality_fails_tail count need ls tail (Truncated number) same q =
    let long : count ≡ count + length tail = let none = ap (λ (v : List Line). length v) same in omega (arith, none) in
    let all : ls ≡ ls ++ tail = sym (append-nil ls) ∙ ap (λ v. ls ++ v) (sym same) in
    subst (λ v. QualityFails v need (ls ++ tail) (Truncated number)) long (subst (λ v. QualityFails count need v (Truncated number)) all q)
quality_fails_tail count need ls tail (BadStart number) same q = absurd q
quality_fails_tail count need ls tail (BadBase number) same q = absurd q
quality_fails_tail count need ls tail TooLong same q = absurd q
quality_fails_tail count need ls tail ReadFailed same q = absurd q
quality_fails_tail count need ls tail BrokenGzip same q = absurd q
quality_fails_tail count need ls tail ShortGzip same q = absurd q
quality_fails_tail count need ls tail Memory same q = absurd q

behind_plus_tail : (count : ℕ) (body tail : List Line) (fault : FastxFault) → Remains fault tail → FailsBehindPlus count body fault
    → FailsBehindPlus (count + length tail) (body ++ tail) fault
behind_plus_tail count body tail fault same b =
    (b.0, b.1 ++ tail, plus_tail body b.0 b.1 tail b.2, quality_fails_tail count (length b.0) b.1 tail fault same b.3)

pub fastq_fails_tail : (count : ℕ) (ls tail : List Line) (fault : FastxFault) → Remains fault tail
    → FastqFails count ls fault
    → FastqFails (count + length tail) (ls ++ tail) fault
fastq_fails_tail count ls tail (BadStart number) same h =
    let bad = h.1 in (
      h.0 ++ tail,
      record {
        line = bad.line;
        whole = skip_blanks-append ls tail bad.line h.0 bad.whole
            ∙ ap (λ v. v ++ tail) bad.whole;
        no_title = bad.no_title;
      },
      number_tail count h.0 tail number h.2,
    )
fastq_fails_tail count ls tail (BadBase number) same h =
    (h.0 ++ tail, fastq_title_tail ls h.0 tail h.1, sequence_fails_tail count plus_sign h.0 tail (BadBase number) h.2)
fastq_fails_tail count ls tail (BadQuality number) same h =
    (h.0 ++ tail, fastq_title_tail ls h.0 tail h.1, behind_plus_tail count h.0 tail (BadQuality number) same h.2)
fastq_fails_tail count ls tail (LongQuality number) same h =
    (h.0 ++ tail, fastq_title_tail ls h.0 tail h.1, behind_plus_tail count h.0 tail (LongQuality number) same h.2)
fastq_fails_tail count ls tail (Truncated number) same h =
    let long : count ≡ count + length tail = let none = ap (λ (v : List Line). length v) same in omega (arith, none) in
    let all : ls ≡ ls ++ tail = sym (append-nil ls) ∙ ap (λ v. ls ++ v) (sym same) in
    subst (λ v. FastqFails v (ls ++ tail) (Truncated number)) long (subst (λ v. FastqFails count v
    (Truncated number)) all h)
fastq_fails_tail count ls tail TooLong same h = absurd h.2
fastq_fails_tail count ls tail ReadFailed same h = absurd h.2
fastq_fails_tail count ls tail BrokenGzip same h = absurd h.2
fastq_fails_tail count ls tail ShortGzip same h = absurd h.2
fastq_fails_tail count ls tail Memory same h = absurd h.2

-- a record that fails has a line that isn't blank
pub fails_some : (count : ℕ) (ls : List Line) (fault : FastxFault) → FastqFails count ls fault
    → (line : Line) × (more : List Line) × (skip_blanks ls ≡ line ∷ more)
fails_some count ls (BadStart number) h = (h.1.line, h.0, h.1.whole)
fails_some count ls (BadBase number) h = (h.1.title, h.0, h.1.whole)
fails_some count ls (BadQuality number) h = (h.1.title, h.0, h.1.whole)
fails_some count ls (LongQuality number) h = (h.1.title, h.0, h.1.whole)
fails_some count ls (Truncated number) h = (h.1.title, h.0, h.1.whole)
fails_some count ls TooLong h = absurd h.2
fails_some count ls ReadFailed h = absurd h.2
fails_some count ls BrokenGzip h = absurd h.2
fails_some count ls ShortGzip h = absurd h.2
fails_some count ls Memory h = absurd h.2

-- ---- FASTQ records don't depend on blank lines before them

pub fastq_from : (ls : List Line) (read : Read) (rest : List Line) → IsFastqRecord (skip_blanks ls) read rest
    → IsFastqRecord ls read rest
fastq_from ls read rest r = record {
  body = r.body;
  title = record {
    title = r.title.title;
    whole = sym (skip_blanks-again ls)
        ∙ r.title.whole;
    is_title = r.title.is_title;
  };
  record_body = r.record_body;
}

title_from : (ls body : List Line) → BeginsWithFastqTitle (skip_blanks ls) body → BeginsWithFastqTitle ls body
title_from ls body t = record { title = t.title; whole = sym (skip_blanks-again ls) ∙ t.whole; is_title = t.is_title }

pub fastq_fails_from : (count : ℕ) (ls : List Line) (fault : FastxFault) → FastqFails count (skip_blanks ls) fault
    → FastqFails count ls fault
fastq_fails_from count ls (BadStart number) h =
    (h.0, record { line = h.1.line; whole = sym (skip_blanks-again ls) ∙ h.1.whole; no_title = h.1.no_title }, h.2)
fastq_fails_from count ls (BadBase number) h = (h.0, title_from ls h.0 h.1, h.2)
fastq_fails_from count ls (BadQuality number) h = (h.0, title_from ls h.0 h.1, h.2)
fastq_fails_from count ls (LongQuality number) h = (h.0, title_from ls h.0 h.1, h.2)
fastq_fails_from count ls (Truncated number) h = (h.0, title_from ls h.0 h.1, h.2)
fastq_fails_from count ls TooLong h = absurd h.2
fastq_fails_from count ls ReadFailed h = absurd h.2
fastq_fails_from count ls BrokenGzip h = absurd h.2
fastq_fails_from count ls ShortGzip h = absurd h.2
fastq_fails_from count ls Memory h = absurd h.2

-- ---- the next FASTQ record

-- the next record, and the blank lines after it that are skipped
pub record IsPassed (now next past : Cursor) (read : Read) : Type 0 where
  pub one : IsFastqRecord now.left read next.left
  pub counted : line_count next ≡ line_count now
  pub past_blanks : past.left ≡ skip_blanks next.left
  pub past_counted : line_count past ≡ line_count next

pub fastq_push : (start now next past : Cursor) (reads : List Read) (read : Read) → FastqSoFar start now reads
    → IsPassed now next past read → FastqSoFar start past (reads ++ read ∷ [])
fastq_push start now next past reads read before passed =
    let here = fastq_from before.here read next.left (subst (λ v. IsFastqRecord v read next.left) before.past_blanks
    passed.one) in
    record {
      here = next.left;
      so_far = Records-push IsFastqRecord start.left reads before.here read next.left before.so_far here;
      past_blanks = passed.past_blanks;
      counted = passed.past_counted ∙ passed.counted ∙ before.counted;
    }

-- a record that fails, after whole records
pub fastq_fails_next : (start now : Cursor) (reads : List Read) → FastqSoFar start now reads → (fault : FastxFault)
    → FastqFails (line_count now) now.left fault
    → FirstFault IsFastqRecord (FastqFails (line_count start)) start.left fault
fastq_fails_next start now reads before fault fails = (
  reads,
  before.here,
  before.so_far,
  fastq_fails_from (line_count start) before.here fault
      (subst (λ v. FastqFails (line_count start) v fault) before.past_blanks (subst
      (λ count. FastqFails count now.left fault) before.counted fails)),
)
