use Rattle.std.proofs.Common.{◌∙◌, ap, map, subst, sym}
use Rattle.kc_combine.specs.Aheads.{HaveLength, whences_of}
use Rattle.kc_combine.specs.KeptTables.{HasGiven, HasGivenAll}
use Rattle.kc_combine.specs.LoadedTables.{table_seen}
use Rattle.kc_combine.specs.WrittenTables.{StandAtStart}
use Rattle.kc_combine.proofs.CombinedTextLemmas.{if_err, if_ok}
use Rattle.kc_combine.proofs.LoadedTableLemmas.{begun_lengths, begun_start, combines_no_tables, combines_tables, whence_of_kept}
use Rattle.kc_combine.proofs.loaded_tables.combine_tables.Goals as goal

pub write_combined-requires-clause-words : goal.write_combined-requires-clause-words
write_combined-requires-clause-words g c =
    subst (HaveLength whence_of_kept c.in_ok-header.header.k) (sym c.deref_mut.ensures.value)
    (begun_lengths c.args.combining c.in_ok-header.header (map table_seen c.args.tables.now) c.in_ok-aheads.aheads.items
    c.in_ok-aheads.ensures c.in_ok-header.ensures.header)

pub returns-clause-combined : goal.returns-clause-combined
returns-clause-combined g c =
    let tables = map table_seen c.args.tables.now in
    let aheads = c.in_ok-aheads.aheads.items in
    let afters = c.write_combined.new.aheads in
    let begun = c.in_ok-aheads.ensures in
    let same = c.write_combined.ensures.same ∙ ap (whences_of whence_of_kept) c.deref_mut.ensures.value in
    let start = subst (StandAtStart HasGiven HasGivenAll) (sym c.deref_mut.ensures.value) (begun_start tables aheads begun) in
    if_ok _ _ c.write_combined.result
    (combines_tables c.args.combining tables c.in_ok-header.header aheads afters (g.W.Sink.seen c.args.writer.now)
    (g.W.Sink.seen c.write_combined.new.writer) begun c.in_ok-header.ensures.header same)
    (c.write_combined.ensures.written start)

pub returns-clause-fault : goal.returns-clause-fault
returns-clause-fault g c =
    let tables = map table_seen c.args.tables.now in
    let aheads = c.in_ok-aheads.aheads.items in
    let afters = c.write_combined.new.aheads in
    let begun = c.in_ok-aheads.ensures in
    let same = c.write_combined.ensures.same ∙ ap (whences_of whence_of_kept) c.deref_mut.ensures.value in
    let start = subst (StandAtStart HasGiven HasGivenAll) (sym c.deref_mut.ensures.value) (begun_start tables aheads begun) in
    if_err _ _ c.write_combined.result
    (combines_no_tables c.args.combining tables c.in_ok-header.header aheads afters (g.W.Sink.seen c.args.writer.now)
    (g.W.Sink.seen c.write_combined.new.writer) begun c.in_ok-header.ensures.header
    c.in_ok-header.ensures.few same)
    (c.write_combined.ensures.fault start)
