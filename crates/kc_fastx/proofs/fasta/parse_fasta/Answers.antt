use Rattle.kc_fastx.proofs.FastaLemmas.{fasta_push}
use Rattle.kc_fastx.proofs.fasta.parse_fasta.Goals as goal

pub records-preserved : goal.records-preserved
records-preserved c =
    let next = rw c.in-Some.is at c.in_ok-read.ensures.some in
    rw c.in_ok-push.ensures.items
    (fasta_push c.args.lines.now c.records.lines c.next_fasta.new.lines c.records.reads.items c.in-Some.read
    c.records.invariant
    (record { one = next; counted = c.in_ok-read.ensures.counted }))
