use Rattle.std.proofs.Common.{ap}
use Rattle.std.proofs.lemmas.List.{get_or_read}
use Rattle.std.proofs.Math.Seq.{map-set_same}
use Rattle.kc_table.specs.declared.great_counts.Entry.{Entry}
use Rattle.kc_table.specs.GreatCounts.{no_entry}
use Rattle.kc_table.proofs.great_counts.link.Goals as goal

pub returns-clause-same : goal.returns-clause-same
returns-clause-same c =
    map-set_same (λ (e : Entry). (e.place, e.count)) c.args.entries.now.items c.args.index _ no_entry
    (ap (λ (e : Entry). (e.place, e.count))
    (get_or_read c.args.entries.now.items c.args.index c.index_mut.result.now c.requires.in_range c.index_mut.ensures.value
    no_entry))
