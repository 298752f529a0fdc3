use Rattle.std.proofs.Common.{◌∙◌, ap, sym}
use Rattle.kc_table.specs.GreatCounts.{Greats, great_count}
use Rattle.kc_table.proofs.GreatEntries.{count_found, count_nowhere, new_by_entries}
use Rattle.kc_table.proofs.great_counts.GreatCounts.count.Goals as goal

pub returns-in-Some : goal.returns-in-Some
returns-in-Some c =
    count_found c.self.inside.entries.items c.deref-2.result.now c.in-Some.index c.args.place c.index.result.now
    (record {
      same = c.deref-2.ensures.value;
      within = c.in-Some.ensures.in_range;
      here = c.in-Some.ensures.here;
      read = c.index.ensures;
    }) c.self.invariant.apart
    ∙ ap (λ (g : Greats). great_count g.counts c.args.place) c.self.view_is

pub returns-in-None : goal.returns-in-None
returns-in-None c =
    sym (count_nowhere _ c.args.place
    (new_by_entries c.self.inside.entries.items _ c.args.place c.deref-2.ensures.value c.in-None.ensures.none))
    ∙ ap (λ (g : Greats). great_count g.counts c.args.place) c.self.view_is
