use Rattle.kc_fastx.proofs.RecordsLemmas.{passes_both}
use Rattle.kc_fastx.proofs.fasta.next_fasta.Goals as goal

pub returns-clause-passes : goal.returns-clause-passes
returns-clause-passes c = passes_both _ c.next_line.new.self _ c.in-Some.ensures.passes c.in_ok-bases.ensures.passes
