use Rattle.kc_combine.proofs.LoadedTableLemmas.{writes_merged, writes_merged_part}
use Rattle.kc_combine.proofs.combining_laws.written_merge.Goals as goal

pub returns-clause-whole : goal.returns-clause-whole
returns-clause-whole c = writes_merged

pub returns-clause-part : goal.returns-clause-part
returns-clause-part c = writes_merged_part
