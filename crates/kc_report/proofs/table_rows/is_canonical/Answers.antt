use Rattle.kc_report.proofs.FieldLemmas.{formed}
use Rattle.kc_report.proofs.table_rows.is_canonical.Goals as goal

pub returns : goal.returns
returns c = formed c.args.k c.args.word.0 c.canonical.result.0 c.requires c.canonical.ensures.below c.canonical.ensures.lesser
