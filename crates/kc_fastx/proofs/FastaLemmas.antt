-- The whole FASTA records that were taken so far, and the fault of the next one.
use Rattle.std.proofs.Common.{◌≡◌, ℕ, ◌<◌, true, List, [], ◌∷◌, ◌++◌, length, refl, ap, subst, ◌∙◌, None, arith}
use Rattle.std.proofs.Common.{length-append}
use Rattle.kc_fastx.specs.declared.read_faults.FastxFault.{FastxFault}
use Rattle.kc_fastx.specs.Lines.{Line, Cursor, ends_or_begins_with, line_count}
use Rattle.kc_fastx.specs.Reads.{Read, read_of}
use Rattle.kc_fastx.specs.Records.{BeginsWithSequence, SequenceFails, FirstFault}
use Rattle.kc_fastx.specs.Fasta.{BeginsWithFastaTitle, IsFastaRecord, FastaFails, greater_than}
use Rattle.kc_fastx.proofs.RecordsLemmas.{TakesLine, TakesTitle, RecordsSoFar, TakesRecord, records_more, line_count-more}

-- from `start` on, the lines up to `now` are whole records with these reads, and `now` is at the next one or at the end
pub record FastaSoFar (start now : Cursor) (reads : List Read) : Type 0 where
  pub records : RecordsSoFar IsFastaRecord start now reads
  pub at : ends_or_begins_with greater_than now.left ≡ true

-- the first of the lines at a record is its title
pub title_at : (now next : Cursor) (line : Line) → ends_or_begins_with greater_than now.left ≡ true → TakesLine now next line
    → TakesTitle greater_than now next
title_at now next line at step =
    record { title = line; step = step; is_title = subst (λ ls. ends_or_begins_with greater_than ls ≡ true) step.left at }

fasta_title : (now next : Cursor) → TakesTitle greater_than now next → BeginsWithFastaTitle now.left next.left
fasta_title now next t = record { title = t.title; whole = t.step.left; is_title = t.is_title }

-- `after` has taken one record more than `now`: a title, and the whole sequence of these bases
pub record TakesFastaRecord (now after : Cursor) (bases : List ℕ) : Type 0 where
  pub next : Cursor
  pub title : TakesTitle greater_than now next
  pub sequence : BeginsWithSequence greater_than next.left bases after.left
  pub ends : ends_or_begins_with greater_than after.left ≡ true
  pub counted : line_count after ≡ line_count next

pub fasta_more : (start now after : Cursor) (reads : List Read) (bases : List ℕ) → FastaSoFar start now reads
    → TakesFastaRecord now after bases → FastaSoFar start after (reads ++ read_of bases None ∷ [])
fasta_more start now after reads bases before taken =
    let next = taken.next in
    let t = taken.title in
    let one : TakesRecord IsFastaRecord now after (read_of bases None) = record {
      one = record { body = next.left; title = fasta_title now next t; sequence = taken.sequence; ends = taken.ends; no_quals = refl };
      counted = taken.counted ∙ line_count-more now next t.title t.step;
    } in
    record { records = records_more IsFastaRecord start now after reads (read_of bases None) before.records one; at = taken.ends }

-- a record whose sequence fails, after whole records
pub fasta_fails : (start now next : Cursor) (reads : List Read) (fault : FastxFault) → RecordsSoFar IsFastaRecord start now reads
    → TakesTitle greater_than now next → SequenceFails (line_count next) greater_than next.left fault
    → FirstFault IsFastaRecord (FastaFails (line_count start)) start.left fault
fasta_fails start now next reads fault before t fails = (
  reads,
  now.left,
  before.so_far,
  (
    next.left,
    fasta_title now next t,
    subst (λ count. SequenceFails count greater_than next.left fault) (line_count-more now next t.title t.step ∙ before.counted) fails,
  ),
)

-- one more record
pub fasta_push : (start now after : Cursor) (reads : List Read) (read : Read) → FastaSoFar start now reads
    → TakesRecord IsFastaRecord now after read
    → FastaSoFar start after (reads ++ read ∷ [])
fasta_push start now after reads read before taken = record {
  records = records_more IsFastaRecord start now after reads read before.records taken;
  at = taken.one.ends;
}

-- a record that fails, after whole records
pub fasta_fails_next : (start now : Cursor) (reads : List Read) → FastaSoFar start now reads → (fault : FastxFault)
    → FastaFails (line_count now) now.left fault
    → FirstFault IsFastaRecord (FastaFails (line_count start)) start.left fault
fasta_fails_next start now reads before fault fails = (
  reads,
  now.left,
  before.records.so_far,
  subst (λ count. FastaFails count now.left fault) before.records.counted
      fails,
)

-- a record has a line
pub fasta_shorter : (ls : List Line) (read : Read) (rest : List Line) → IsFastaRecord ls read rest
    → length rest < length ls
fasta_shorter ls read rest r =
    let title = ap length r.title.whole in
    let body = ap length r.sequence.split in
    omega (arith, title, body, length-append r.sequence.sequence rest)
