use Rattle.std.proofs.Common.{ap, sym, ◌∙◌, length, arith}
use Rattle.std.proofs.lemmas.Result.{err_from_is_err_and}
use Rattle.kc_fastx.specs.Lines.{line_count, skip_blanks}
use Rattle.kc_fastx.specs.Records.{FirstFault}
use Rattle.kc_fastx.specs.Fastq.{IsFastqRecord, FastqFails}
use Rattle.kc_fastx.proofs.FastqLemmas.{unless_memory, fastq_shorter, length-skip_blanks}
use Rattle.kc_fastx.proofs.TailLemmas.{skip_blanks-again, fastq_push, fastq_fails_next}
use Rattle.kc_fastx.proofs.fastq.parse_fastq.Goals as goal

pub next_fastq-requires : goal.next_fastq-requires
next_fastq-requires c =
    let past = c.records.invariant.past_blanks in
    ap skip_blanks past ∙ skip_blanks-again c.records.invariant.here ∙ sym past

pub returns-in_err-read-clause-err : goal.returns-in_err-read-clause-err
returns-in_err-read-clause-err c =
    let start = c.args.lines.now in
    let now = c.records.lines in
    let fails = unless_memory (FastqFails (line_count now) now.left) (FirstFault IsFastqRecord (FastqFails
    (line_count start)) start.left)
    (fastq_fails_next start now c.records.reads.items c.records.invariant) in
    let p = err_from_is_err_and c.from_residual.result c.from_residual.ensures.1 in
    rw (p.1, p.2) (fails c.in_err-read.field-0.0 c.in_err-read.ensures.err)

pub records-smaller : goal.records-smaller
records-smaller c =
    omega (
      arith,
      fastq_shorter c.records.lines.left c.in-Some.read c.next_fastq.new.lines.left
          (rw c.in-Some.is at c.in_ok-read.ensures.some),
      length-skip_blanks c.next_fastq.new.lines.left,
      ap length c.pass_blanks-in-Some.ensures.left,
    )

pub records-preserved : goal.records-preserved
records-preserved c =
    let next = rw c.in-Some.is at c.in_ok-read.ensures.some in
    rw c.in_ok-push.ensures.items
    (fastq_push c.args.lines.now c.records.lines c.next_fastq.new.lines c.pass_blanks-in-Some.new.self
    c.records.reads.items c.in-Some.read c.records.invariant (record {
      one = next;
      counted = c.in_ok-read.ensures.counted;
      past_blanks = c.pass_blanks-in-Some.ensures.left;
      past_counted = c.pass_blanks-in-Some.ensures.counted;
    }))
