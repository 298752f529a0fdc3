use Rattle.kc_word.specs.Shared.{values}
use Rattle.kc_gather.proofs.Journals.{has_all_told}
use Rattle.kc_gather.proofs.journal.has_all_below.Goals as goal

pub returns : goal.returns
returns c = has_all_told (values c.args.journal.now) c.count_below.result c.args.number c.requires c.count_below.ensures
