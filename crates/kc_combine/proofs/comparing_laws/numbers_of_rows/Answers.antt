use Rattle.kc_combine.proofs.ComparedLemmas.{counts_assembly, counts_reads, sums_assembly}
use Rattle.kc_combine.proofs.comparing_laws.numbers_of_rows.Goals as goal

pub returns-clause-reads : goal.returns-clause-reads
returns-clause-reads c = counts_reads

pub returns-clause-assembly : goal.returns-clause-assembly
returns-clause-assembly c = counts_assembly

pub returns-clause-total : goal.returns-clause-total
returns-clause-total c = sums_assembly
