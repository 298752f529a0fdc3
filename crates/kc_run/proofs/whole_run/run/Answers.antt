use Rattle.std.proofs.Common.{get_or}
use Rattle.std.proofs.lemmas.List.{get_or_default}
use Rattle.std.proofs.lemmas.List.Elements.{All-contains_itself}
use Rattle.kc_word.specs.Shared.{values}
use Rattle.kc_run.proofs.AllowedLemmas.{not_too_many}
use Rattle.kc_run.proofs.whole_run.run.Goals as goal

pub count_batches-requires-clause-allowed : goal.count_batches-requires-clause-allowed
count_batches-requires-clause-allowed g c κs within = All-contains_itself (values c.args.batches.now)

pub count_batches-requires-clause-few_allowed : goal.count_batches-requires-clause-few_allowed
count_batches-requires-clause-few_allowed g c κs within = not_too_many c.args.setup.now.rule.k (values c.args.batches.now) c.requires.small

pub count_batches-requires-clause-limits : goal.count_batches-requires-clause-limits
count_batches-requires-clause-limits g c κs live k d within counts key full =
    let tables = c.args.tables.items in
    let table = get_or tables k d in
    (table, (k, within, get_or_default tables k table d within), full)
